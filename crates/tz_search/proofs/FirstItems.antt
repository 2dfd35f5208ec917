-- Lists whose first n items pass a test and whose others do not, and functions that rise from place to place.
use Rattle.tz_search.proofs.Words.{Bool, List, [], ap, arith, cases_lt, false, filter, get_or, int_le, int_lt, length, linear, suc, take, true, zero, ℕ, ℤ}
use Rattle.tz_search.proofs.Words.{◌<ℤ◌, ◌<◌, ◌∷◌, ◌≡◌, ◌≤ℤ◌, ◌≤◌}

-- if the first n items pass and the others fail
pub filter_first : {X : Type 0} (p : X → Bool) (xs : List X) (n : ℕ) → n ≤ length xs → ((k : ℕ) (d : X) → k < n → p (get_or xs k d) ≡ true)
    → ((k : ℕ) (d : X) → n ≤ k → k < length xs → p (get_or xs k d) ≡ false) → filter p xs ≡ take n xs
filter_first p [] n h passes fails = grind arith
filter_first p (x ∷ xs) zero h passes fails =
    rw (fails 0 x (omega arith) (omega arith)) (filter_first p xs zero (omega arith) (grind arith) (λ k d l u. fails (suc k) d (omega arith) (omega arith)))
filter_first p (x ∷ xs) (suc n) h passes fails = rw (passes 0 x (omega arith)) (ap (λ ys. x ∷ ys) (filter_first p xs n (omega arith)
    (λ k d. grind (arith, passes (suc k) d)) (λ k d. grind (arith, fails (suc k) d))))

-- what does not fall from place to place does not fall
pub rises : (f : ℕ → ℤ) (n : ℕ) → ((i : ℕ) → suc i < n → f i ≤ℤ f (suc i)) → (i k : ℕ) → i ≤ k → k < n → f i ≤ℤ f k
rises f n step i zero h l = grind linear
rises f n step i (suc k) h l = grind (linear, cases_lt, rises f n step i k)

pub le_true : (a b : ℤ) → a ≤ℤ b → int_le a b ≡ true
le_true a b h = grind arith

pub le_false : (a b : ℤ) → b <ℤ a → int_le a b ≡ false
le_false a b h = grind arith

pub le_is : (a b : ℤ) → int_le a b ≡ true → a ≤ℤ b
le_is a b h = grind arith

pub lt_true : (a b : ℤ) → a <ℤ b → int_lt a b ≡ true
lt_true a b h = grind arith

pub lt_false : (a b : ℤ) → b ≤ℤ a → int_lt a b ≡ false
lt_false a b h = grind arith
