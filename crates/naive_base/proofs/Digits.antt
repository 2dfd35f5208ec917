-- How numbers are printed, a few digits at a time.
use Rattle.naive_base.proofs.Words.{append_assoc, arith, decimal, decimal_digit, decimal_step, four_digits, fraction_text, in_digits, nat_tests, ℕ, ◌%◌, ◌++◌}
use Rattle.naive_base.proofs.Words.{◌/◌, ◌<◌, ◌^◌, ◌∷◌, ◌≡◌, ◌≤◌}

pub decimal_pair : (n : ℕ) → 10 ≤ n → n < 100 → decimal n ≡ in_digits 2 n
unfolding in_digits
decimal_pair n more low = grind (arith, decimal_step, decimal_digit)

pub four_digits-parts : (n : ℕ) → 10_000 ≤ n → n < 2 ^ 64 → four_digits n ≡ decimal (n / 10_000) ++ in_digits 4 (n % 10_000)
unfolding in_digits
four_digits-parts n more fits = grind (arith, nat_tests, append_assoc, decimal_step)

pub fraction_text-six : (f : ℕ) → 0 < f % 1_000_000 → f % 1_000 ≡ 0
    → fraction_text f ≡ 46 ∷ (in_digits 3 (f / 1_000_000) ++ in_digits 3 (f / 1_000 % 1_000))
unfolding in_digits
fraction_text-six f some none = grind (arith, nat_tests)

pub fraction_text-nine : (f : ℕ) → 0 < f % 1_000
    → fraction_text f ≡ 46 ∷ (in_digits 3 (f / 1_000_000) ++ (in_digits 3 (f / 1_000 % 1_000) ++ in_digits 3 (f % 1_000)))
unfolding in_digits
fraction_text-nine f some = grind (arith, nat_tests)

pub ruleset printed = (append_assoc, decimal_digit, decimal_pair, four_digits-parts, fraction_text-six, fraction_text-nine)
