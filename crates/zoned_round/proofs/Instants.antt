-- Values that went some way, as instants.
use Rattle.zoned_round.proofs.Words.{IsGone, IsItselfOr, IsRoundingFault, Reading, RoundingError, arith, moved, numbers, of_total, pos, total, total-moved, ℕ}
use Rattle.zoned_round.proofs.Words.{ℤ, ◌+ℤ◌, ◌<◌, ◌≡◌, ◌≤ℤ◌}

-- and so is one that goes back, out of a leap second too
total-of : (n : ℤ) → total (of_total n) ≡ n
total-of = grind numbers

total-back : (r : Reading) (way : ℤ) → r.f < 2_000_000_000 → way ≤ℤ pos 0 → total (moved r way) ≡ total r +ℤ way
total-back = grind (numbers, total-of)

-- values that show an instant and move like it
module _ {T : Type 0} (instant : T → Reading) (IsMoved : ℤ → T → Type 0) (value : T) where
  -- outside leap seconds a value is that much later
  pub total-gone : (answer : T) (way : ℤ) → ((d : ℤ) (new : T) → IsMoved d new → instant new ≡ moved (instant value) d)
      → (instant value).f < 1_000_000_000 → IsGone IsMoved way value answer → total (instant answer) ≡ total (instant value) +ℤ way
  total-gone = grind (numbers, total-moved)

  pub gone-back : (answer : T) (way : ℤ) → ((d : ℤ) (new : T) → IsMoved d new → instant new ≡ moved (instant value) d)
      → (instant value).f < 2_000_000_000 → way ≤ℤ pos 0 → IsGone IsMoved way value answer → total (instant answer) ≡ total (instant value) +ℤ way
  gone-back = grind (numbers, total-back)

  -- two values that were moved alike show one local date-time
  pub gone-once : (a b : T) (way : ℤ) → ((d : ℤ) (new : T) → IsMoved d new → instant new ≡ moved (instant value) d)
      → IsGone IsMoved way value a → IsGone IsMoved way value b → instant a ≡ instant b
  gone-once = grind numbers

-- what holds of the value and of each that went from it
pub gone-in : {T : Type 0} (P : T → Type 0) (IsMoved : ℤ → T → Type 0) (value answer : T) (way : ℤ)
    → P value → ((d : ℤ) (new : T) → IsMoved d new → P new) → IsGone IsMoved way value answer → P answer
gone-in = grind numbers

pub itself-in : {T : Type 0} (P Other : T → Type 0) (value answer : T) (n : ℕ)
    → P value → ((new : T) → Other new → P new) → IsItselfOr (n ≡ 0) Other value answer → P answer
itself-in = grind numbers

-- reasons to refuse a value
module _ (p q : Type 0) where
  -- one at most
  pub refusal-once : (e f : RoundingError) → IsRoundingFault p q e → IsRoundingFault p q f → e ≡ f
  refusal-once = grind arith

  -- and none if both fit
  pub not-refused : (e : RoundingError) → p → q → IsRoundingFault p q e → ⊥
  not-refused = grind arith
