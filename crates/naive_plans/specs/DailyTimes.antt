-- Plans with one time of day.
use Rattle.std.specs.Prelude.{◌≡◌, ℕ, ℤ, ◌≤ℤ◌}

-- the plan has one second of each day from a first day on
pub record IsDailyFrom (first : ℤ) (at : ℕ) (day : ℤ) (second : ℕ) : Type 0 where
  pub from : first ≤ℤ day
  pub same : second ≡ at
