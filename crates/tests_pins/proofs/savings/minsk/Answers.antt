use Rattle.tests_pins.proofs.SetSavings.{amount_is, no_next, only_amount}
use Rattle.tests_pins.specs.Savings.{summer, type_of}
use Rattle.tz_saving.proofs.{SideLaws.{candidate_is}, Words.{IsAmount, IsNextCandidate, None, Some, Usual, arith, ints, neg_ℤ, pos, refl, true, ℤ}}
use Rattle.tests_pins.proofs.savings.minsk.Goals as goal

unused : (a : ℤ) → IsNextCandidate (summer (neg_ℤ (pos 899_780_400)) (neg_ℤ (pos 857_257_200)) (pos 10_800) (pos 7_200) (pos 3_600)) None
    (type_of (pos 7_200) true) (neg_ℤ (pos 880_000_000)) a → ⊥
unused = no_next (neg_ℤ (pos 899_780_400)) (neg_ℤ (pos 857_257_200)) (pos 10_800) (pos 7_200) (pos 3_600) (omega arith) (omega arith) (omega arith)
    (neg_ℤ (pos 880_000_000)) (omega arith)

amount_of : IsAmount (summer (neg_ℤ (pos 899_780_400)) (neg_ℤ (pos 857_257_200)) (pos 10_800) (pos 7_200) (pos 3_600)) None
    (neg_ℤ (pos 880_000_000)) (pos 3_600)
amount_of = amount_is (neg_ℤ (pos 899_780_400)) (neg_ℤ (pos 857_257_200)) (pos 10_800) (pos 7_200) (pos 3_600)
    (omega arith) (omega arith) (omega arith) (neg_ℤ (pos 880_000_000)) (omega arith) (omega arith)
    (Some (neg_ℤ (pos 3_600))) (Some (pos 3_600)) (pos 3_600)
    (candidate_is (pos 7_200) (pos 10_800) (λ e. omega (arith, ints)) (omega arith))
    (candidate_is (pos 7_200) (pos 3_600) (λ e. omega (arith, ints)) (omega arith))
    (Usual (λ e. omega (arith, ints)) (unused (neg_ℤ (pos 3_600))) (unused (pos 3_600)) refl)

pub returns-clause-amount : goal.returns-clause-amount
returns-clause-amount c = amount_of

pub returns-clause-only : goal.returns-clause-only
returns-clause-only c = λ a k. only_amount (neg_ℤ (pos 899_780_400)) (neg_ℤ (pos 857_257_200)) (pos 10_800) (pos 7_200) (pos 3_600)
    (omega arith) (omega arith) (omega arith) (neg_ℤ (pos 880_000_000)) (pos 3_600) a amount_of k
