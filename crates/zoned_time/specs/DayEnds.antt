-- Days from their starts: how long one lasts, its last instant, and the first day of a week, a month and a year.
use Rattle.std.specs.Prelude.{◌≡◌, ℕ, ◌<◌, ℤ, pos, ◌+ℤ◌, ◌-ℤ◌, ◌*ℤ◌, ◌≤ℤ◌, ◌<ℤ◌}
use Rattle.naive_base.specs.{Date.{day_number}, DateOf.{year_of, month_of}, Year.{year_start}, Range.{IsInRange}, Reading.{Reading, IsEarlier}}
use Rattle.naive_base.specs.Weekday.{weekday_of}
use Rattle.offset_core.specs.Nanoseconds.{nanos_per_second}
use Rattle.zoned_time.specs.{Days.{IsFirstToReach, IsInDay, midnight}, Zone.{Meaning, Law, IsZoneSecond, IsOffsetAt}, Zoned.{Zoned}}

-- the first second at which clocks have reached the midnight that begins a day, and that of the next day
pub record AreStartsOfDays (off : ℤ → ℤ) (day start next : ℤ) : Type 0 where
  pub starts : IsFirstToReach off (midnight day).s start
  pub ends : IsFirstToReach off (midnight (day +ℤ pos 1)).s next

-- how many nanoseconds lie between the two
pub record IsLengthOfDay (off : ℤ → ℤ) (day nanos : ℤ) : Type 0 where
  pub start : ℤ
  pub next : ℤ
  pub are_starts : AreStartsOfDays off day start next
  pub length : nanos ≡ (next -ℤ start) *ℤ nanos_per_second

-- of the instants in a day, but for leap seconds, the last
pub record IsEndOfDay (off : ℤ → ℤ) (day : ℤ) (r : Reading) : Type 0 where
  pub in_day : IsInDay off day r
  pub no_leap : r.f < 1_000_000_000
  pub last : (q : Reading) → IsInDay off day q → q.f < 1_000_000_000 → ¬ (IsEarlier r q)

-- the day has none in range
abbrev pub HasNoEnd : (ℤ → ℤ) → ℤ → Type 0
HasNoEnd off day = (r : Reading) → IsEndOfDay off day r → IsInRange r.s → ⊥

-- the last instant of a day of a zone, with the offset that the zone gives then
pub record IsZonedEnd {O : Type 0} {m : Meaning O} (law : Law m) (day : ℤ) (d : Zoned O) : Type 0 where
  pub end : IsEndOfDay law.off day d.utc
  pub offset : IsOffsetAt law d.utc.s d.offset

-- the gap of l ends at the instant a, a whole second: until then clocks show earlier local times, and then later ones
pub record IsGapEnd (off : ℤ → ℤ) (l : ℤ) (a : Reading) : Type 0 where
  pub whole : a.f ≡ 0
  pub before : (u : ℤ) → IsZoneSecond u → u <ℤ a.s → (u +ℤ off u) <ℤ l
  pub after : l <ℤ (a.s +ℤ off a.s)

-- before the second u no clock shows a local time later than l
abbrev pub NonePassed : (ℤ → ℤ) → ℤ → ℤ → Type 0
NonePassed off l u = (v : ℤ) → IsZoneSecond v → v <ℤ u → (v +ℤ off v) ≤ℤ l

-- the first day of the week of a day, if weeks begin on the weekday of that number
pub record IsFirstOfWeek (weekday : ℕ) (day first : ℤ) : Type 0 where
  pub on : weekday_of first ≡ weekday
  pub not_after : first ≤ℤ day
  pub within : day <ℤ (first +ℤ pos 7)

-- the first day of its month, and of its year
abbrev pub first_of_month : ℤ → ℤ
first_of_month day = day_number (year_of day) (month_of day) 1

abbrev pub first_day_of_year : ℤ → ℤ
first_day_of_year day = year_start (year_of day)
