-- The answer of a lookup by wall clock, for values of any type and any relation `shows` between seconds and values,
-- where `shows u a` says: the second u shows the time that is asked for, and a is its value.
-- A zone lets u be any second of 64 bits, and another caller any second of the range that it takes: the relation says.
use Rattle.std.specs.Prelude.{◌≡◌, ℤ, ◌≤ℤ◌, ◌<ℤ◌}
use Rattle.offset_core.specs.declared.local_result.LocalResult.{LocalResult, TheVariants.{Single, Ambiguous, None}}

-- exactly one second shows the time, and its value is a
pub record IsShownOnce {T : Type 0} (shows : ℤ → T → Type 0) (a : T) : Type 0 where
  pub second : ℤ
  pub shown : shows second a
  pub only : (u : ℤ) (b : T) → shows u b → u ≡ second

-- several seconds do: the value at the least of them is a, and at the greatest b
pub record IsShownBetween {T : Type 0} (shows : ℤ → T → Type 0) (a b : T) : Type 0 where
  pub first : ℤ
  pub last : ℤ
  pub several : first <ℤ last
  pub at_first : shows first a
  pub at_last : shows last b
  pub not_before : (u : ℤ) (c : T) → shows u c → first ≤ℤ u
  pub not_after : (u : ℤ) (c : T) → shows u c → u ≤ℤ last

-- no second shows the time
abbrev pub IsNeverShown : {T : Type 0} → (ℤ → T → Type 0) → Type 0
IsNeverShown {T} shows = (u : ℤ) (a : T) → shows u a → ⊥

-- the answer of a wall clock is right: none, one or several seconds show the time
abbrev pub IsWallAnswer : {T : Type 0} → (ℤ → T → Type 0) → LocalResult T → Type 0
IsWallAnswer shows None = IsNeverShown shows
IsWallAnswer shows (Single a) = IsShownOnce shows a
IsWallAnswer shows (Ambiguous a b) = IsShownBetween shows a b
