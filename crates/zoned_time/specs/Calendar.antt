-- Stored offsets that are read back, and the time between two instants in months, days and a rest.
use Rattle.std.specs.Prelude.{◌≡◌, ◌⊎◌, ℕ, ◌+◌, ◌<◌, ◌≤◌, ℤ, pos, ◌≤ℤ◌}
use Rattle.offset_core.specs.TimeDelta.{nanos_of}
use Rattle.naive_base.specs.{Range.{IsInRange}, Reading.{Reading, IsEarlier, difference, moved}}
use Rattle.naive_base.specs.Since.{HaveMonthsPassed, IsGreatest, later_by}
use Rattle.zoned_time.specs.{Days.{IsFirstInstantFrom, IsInstantFrom}, Zone.{Meaning, Law, ShowsByOffset}, Zoned.{Zoned, IsAt}}
use Rattle.zoned_time.specs.declared.calendar_length.CalendarLength.{CalendarLength}

-- the instant at which clocks show l while an offset of k seconds is in force
pub record IsAtOffset {O : Type 0} {m : Meaning O} (law : Law m) (l : Reading) (k : ℤ) (d : Zoned O) : Type 0 where
  pub shows : ShowsByOffset law.off l.s d.utc.s k
  pub fraction : d.utc.f ≡ l.f
  pub at : IsAt law d.utc d

-- there is none in range
abbrev pub NoneAtOffset : (ℤ → ℤ) → ℤ → ℤ → Type 0
NoneAtOffset off l k = (u : ℤ) → ShowsByOffset off l u k → IsInRange u → ⊥

-- by the instant t clocks have shown the local date-time l or a later one
pub record HasReachedBy (off : ℤ → ℤ) (l t : Reading) : Type 0 where
  pub nanoseconds : l.f < 2_000_000_000
  pub instant : Reading
  pub from : IsInstantFrom off l instant
  pub not_after : ¬ (IsEarlier t instant)

-- by then clocks have reached a local date-time by which n months have passed from m
pub record MonthsPassedBy (off : ℤ → ℤ) (m t : Reading) (n : ℕ) : Type 0 where
  pub local : Reading
  pub reached : HasReachedBy off local t
  pub passed : HaveMonthsPassed local m n

-- r is the instant e, of the local date-time m, moved by n months and d days: e itself if both are 0, and else the first instant
-- at or after the local date-time that is n months and then d days later
abbrev pub IsMovedBy : (ℤ → ℤ) → Reading → Reading → ℕ → ℕ → Reading → Type 0
IsMovedBy off e m n d r = ((n + d ≡ 0) × (r ≡ e)) ⊎ ((1 ≤ n + d) × IsFirstInstantFrom off (later_by m n d) r)

-- it has such an instant at or before t
pub record HasMovedBy (off : ℤ → ℤ) (e m t : Reading) (n d : ℕ) : Type 0 where
  pub instant : Reading
  pub moved : IsMovedBy off e m n d instant
  pub not_after : ¬ (IsEarlier t instant)

-- n is the greatest number of months that have passed by t, and d that of the days by which e can then be moved and isn't after t
-- yet: to the instant r
pub record AreCounts (off : ℤ → ℤ) (e m t : Reading) (n d : ℕ) (r : Reading) : Type 0 where
  pub not_earlier : ¬ (IsEarlier t e)
  pub months : IsGreatest (λ k. (k ≡ 0) ⊎ MonthsPassedBy off m t k) n
  pub days : IsGreatest (λ k. HasMovedBy off e m t n k) d
  pub moved : IsMovedBy off e m n d r

-- the length of time from e to t: these months and days, and the time that is left
pub record IsCalendarLength (off : ℤ → ℤ) (e m t : Reading) (length : CalendarLength) : Type 0 where
  pub instant : Reading
  pub counts : AreCounts off e m t length.months length.days instant
  pub in_range : IsInRange instant.s
  pub time : nanos_of length.time ≡ difference t instant
  pub not_negative : pos 0 ≤ℤ difference t instant

-- there is none: t is earlier, or e moved by the months and days is out of range, or it lies in a leap second and the time is negative
abbrev pub HasNoLength : (ℤ → ℤ) → Reading → Reading → Reading → Type 0
HasNoLength off e m t =
    IsEarlier t e
    ⊎ ((n d : ℕ) × (r : Reading) × AreCounts off e m t n d r × (IsInRange r.s → pos 0 ≤ℤ difference t r → ⊥))

-- the instant e moved by n months and d days, and then by some nanoseconds
pub record IsCalendarSum {O : Type 0} {m : Meaning O} (law : Law m) (e l : Reading) (n d : ℕ) (nanos : ℤ) (sum : Zoned O) : Type 0 where
  pub instant : Reading
  pub moved_by : IsMovedBy law.off e l n d instant
  pub in_range : IsInRange instant.s
  pub at : IsAt law (moved instant nanos) sum

-- one of the two is out of range
abbrev pub HasNoSum : (ℤ → ℤ) → Reading → Reading → ℕ → ℕ → ℤ → Type 0
HasNoSum off e l n d nanos = (r : Reading) → IsMovedBy off e l n d r → IsInRange r.s → IsInRange (moved r nanos).s → ⊥
