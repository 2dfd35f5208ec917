-- The last member of a set up to a second, and the first one after it.
use Rattle.std.specs.Prelude.{ℤ, ◌≤ℤ◌, ◌<ℤ◌}

-- l is the last of a set up to s
pub record IsLastUpTo (set : ℤ → Type 0) (s l : ℤ) : Type 0 where
  pub one : set l
  pub not_after : l ≤ℤ s
  pub greatest : (m : ℤ) → set m → m ≤ℤ s → m ≤ℤ l

-- l is the first of a set after s
pub record IsFirstAfter (set : ℤ → Type 0) (s l : ℤ) : Type 0 where
  pub one : set l
  pub after : s <ℤ l
  pub least : (m : ℤ) → set m → s <ℤ m → l ≤ℤ m
