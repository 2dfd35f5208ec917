-- What the laws of this crate say.
use Rattle.std.specs.Prelude.{◌≡◌, ℕ, ℤ, pos, ◌+ℤ◌, ◌-ℤ◌, ◌*ℤ◌, ◌≤ℤ◌, ◌<ℤ◌, unsigned_abs}

-- m is a multiple of the span
abbrev pub IsMultiple : ℕ → ℤ → Type 0
IsMultiple span m = (k : ℤ) × (m ≡ k *ℤ pos span)

-- m is the greatest, or the least, for which P holds
pub record IsGreatestWith (P : ℤ → Type 0) (m : ℤ) : Type 0 where
  pub holds : P m
  pub greatest : (k : ℤ) → P k → k ≤ℤ m

pub record IsLeastWith (P : ℤ → Type 0) (m : ℤ) : Type 0 where
  pub holds : P m
  pub least : (k : ℤ) → P k → m ≤ℤ k

-- how far two numbers are apart
abbrev pub apart : ℤ → ℤ → ℕ
apart m n = unsigned_abs (m -ℤ n)

-- from a to b it is less than a span
abbrev pub IsShortOf : ℤ → ℤ → ℤ → Type 0
IsShortOf a b span = (a ≤ℤ b) × (b <ℤ (a +ℤ span))

-- a and b are at most half a span apart
abbrev pub IsWithinHalf : ℤ → ℤ → ℤ → Type 0
IsWithinHalf a b span = ((a +ℤ a) ≤ℤ (b +ℤ b +ℤ span)) × ((b +ℤ b) ≤ℤ (a +ℤ a +ℤ span))
