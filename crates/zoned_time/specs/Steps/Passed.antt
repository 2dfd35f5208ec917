-- Local times that clocks have passed.
use Rattle.std.specs.Prelude.{ℤ, ◌≤ℤ◌}
use Rattle.zoned_time.specs.Days.{HasReached}

-- up to the second t clocks have shown the local time l or a later one
pub record HasPassed (off : ℤ → ℤ) (l t : ℤ) : Type 0 where
  pub at : ℤ
  pub reached : HasReached off l at
  pub not_after : at ≤ℤ t
