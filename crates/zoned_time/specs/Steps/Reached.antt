-- The last local date-time that clocks have reached, with its nanoseconds, and what is counted from it.
use Rattle.std.specs.Prelude.{◌⊎◌, ℕ, ◌+◌, ◌≤◌, ℤ}
use Rattle.naive_base.specs.{Range.{IsInRange, IsWide}, Reading.{Reading, IsEarlier}, Since.{AreDaysCounted, AreMonthsCounted, later_by}}
use Rattle.zoned_time.specs.Calendar.{HasReachedBy, IsMovedBy}

-- clocks have reached r by the instant t, and no later local date-time
pub record IsLastReachedBy (off : ℤ → ℤ) (t r : Reading) : Type 0 where
  pub reached : HasReachedBy off r t
  pub last : (l : Reading) → HasReachedBy off l t → ¬ (IsEarlier r l)

-- the months and the days that have passed from m to that local date-time
pub record AreCountedBy (off : ℤ → ℤ) (m t : Reading) (n d : ℕ) : Type 0 where
  pub local : Reading
  pub wide : IsWide local.s
  pub wide_start : IsWide m.s
  pub last : IsLastReachedBy off t local
  pub months : AreMonthsCounted local m n
  pub days : AreDaysCounted local m n d

-- what e is moved to is out of range: as a local date-time, or as an instant
pub record IsNotMoved (off : ℤ → ℤ) (e m : Reading) (n d : ℕ) : Type 0 where
  pub some : 1 ≤ n + d
  pub none : (r : Reading) → IsMovedBy off e m n d r → IsInRange r.s → ⊥
  pub far : ¬ (IsWide (later_by m n d).s) ⊎ ((r : Reading) × IsMovedBy off e m n d r × (IsInRange r.s → ⊥))
