-- Steps of a parser: what a value or an error has passed.
use Rattle.std.proofs.Common.{arith, ◌≡◌, ℕ, ◌<◌, ◌≤◌, refl, List, [], ◌∷◌, ◌++◌, length, drop, Bool, true, false}

pub drop_front : (xs ys : List ℕ) → drop (length xs) (xs ++ ys) ≡ ys
drop_front [] ys = refl
drop_front (x ∷ xs) ys = drop_front xs ys

-- a test that can't come out so comes out otherwise
pub false_unless : (b : Bool) → (b ≡ true → ⊥) → b ≡ false
false_unless b h = grind arith

pub at_least : {a b : ℕ} → (b < a → ⊥) → a ≤ b
at_least not_less = omega arith
