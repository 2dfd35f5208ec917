-- Plans that list seconds of the day for each day.
use Rattle.std.specs.Prelude.{ℕ, ◌<◌, ◌≤◌, ℤ, pos, ◌+ℤ◌, ◌-ℤ◌, ◌*ℤ◌}
use Rattle.gregorian.specs.Year.{floor_div, floor_mod}

-- the second of the day of the local time l is listed for its day
abbrev pub IsPlannedOnItsDay : (ℤ → ℕ → Type 0) → ℤ → Type 0
IsPlannedOnItsDay on l = on (floor_div l 86_400) (floor_mod l 86_400)

-- s is the first listed second of the day from a second on
pub record IsFirstSecondFrom (on : ℕ → Type 0) (from s : ℕ) : Type 0 where
  pub planned : on s
  pub not_before : from ≤ s
  pub in_day : s < 86_400
  pub least : (k : ℕ) → on k → from ≤ k → s ≤ k

-- no second of the day from there on is listed
abbrev pub HasNoSecondFrom : (ℕ → Type 0) → ℕ → Type 0
HasNoSecondFrom on from = (k : ℕ) → k < 86_400 → on k → from ≤ k → ⊥

-- the local second before that second of a day
abbrev pub second_before : ℤ → ℕ → ℤ
second_before day second = (day *ℤ pos 86_400 +ℤ pos second) -ℤ pos 1

-- s is the last listed second of the day at or before a second
pub record IsLastSecondUntil (on : ℕ → Type 0) (until s : ℕ) : Type 0 where
  pub planned : on s
  pub not_after : s ≤ until
  pub in_day : s < 86_400
  pub greatest : (k : ℕ) → k < 86_400 → on k → k ≤ until → k ≤ s

-- no second of the day up to there is listed
abbrev pub HasNoSecondUntil : (ℕ → Type 0) → ℕ → Type 0
HasNoSecondUntil on until = (k : ℕ) → k < 86_400 → on k → k ≤ until → ⊥
