-- How many members of a set come before one, if its first members are known.
use Rattle.naive_rrule.specs.RecurrenceSets.{HasBefore}
use Rattle.tests_pins.proofs.Words.{arith, ints, suc, zero, ℕ, ℤ, ◌<ℤ◌, ◌<◌, ◌≤ℤ◌, ◌≤◌}

-- n, if nothing lies before the first of them and between two of them
pub counted : (set : ℤ → Type 0) (at : ℕ → ℤ) (n : ℕ) → ((k : ℕ) → k ≤ n → set (at k)) → ((k : ℕ) → at k <ℤ at (suc k))
    → ((m : ℤ) → set m → at 0 ≤ℤ m) → ((k : ℕ) (m : ℤ) → k < n → set m → at k <ℤ m → at (suc k) ≤ℤ m) → HasBefore set n (at n)
counted set at zero all rise first next = (all 0 (omega arith), first)
counted set at (suc n) all rise first next =
    let before = counted set at n (λ k h. all k (omega arith)) rise first (λ k m h. next k m (omega arith)) in
    (at n, before, all (suc n) (omega arith), rise n, λ m is. next n m (omega arith) is)

-- what has n members before it comes no later than the last one of n + 1 members
pub at_most : (set : ℤ → Type 0) (at : ℕ → ℤ) (n : ℕ) (l : ℤ) → ((k : ℕ) → k ≤ n → set (at k)) → ((k : ℕ) → at k <ℤ at (suc k))
    → HasBefore set n l → l ≤ℤ at n
at_most set at zero l all rise h = h.1 (at 0) (all 0 (omega arith))
at_most set at (suc n) l all rise h =
    let most = at_most set at n h.0 (λ k is. all k (omega arith)) rise h.1 in
    h.4 (at (suc n)) (all (suc n) (omega arith)) (omega (arith, ints, most, rise n))
