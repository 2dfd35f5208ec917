use Rattle.tests_pins.proofs.SetSavings.{amount_is, no_next, only_amount}
use Rattle.tests_pins.specs.Savings.{summer, type_of}
use Rattle.tz_saving.proofs.{SideLaws.{candidate_is}, Words.{IsAmount, IsNextCandidate, None, Some, Usual, arith, ints, pos, refl, true, ℤ}}
use Rattle.tests_pins.proofs.savings.tehran.Goals as goal

unused : (a : ℤ) → IsNextCandidate (summer (pos 227_820_600) (pos 246_223_800) (pos 12_600) (pos 16_200) (pos 14_400)) None
    (type_of (pos 16_200) true) (pos 230_000_000) a → ⊥
unused = no_next (pos 227_820_600) (pos 246_223_800) (pos 12_600) (pos 16_200) (pos 14_400) (omega arith) (omega arith) (omega arith)
    (pos 230_000_000) (omega arith)

amount_of : IsAmount (summer (pos 227_820_600) (pos 246_223_800) (pos 12_600) (pos 16_200) (pos 14_400)) None
    (pos 230_000_000) (pos 3_600)
amount_of = amount_is (pos 227_820_600) (pos 246_223_800) (pos 12_600) (pos 16_200) (pos 14_400)
    (omega arith) (omega arith) (omega arith) (pos 230_000_000) (omega arith) (omega arith)
    (Some (pos 3_600)) (Some (pos 1_800)) (pos 3_600)
    (candidate_is (pos 16_200) (pos 12_600) (λ e. omega (arith, ints)) (omega arith))
    (candidate_is (pos 16_200) (pos 14_400) (λ e. omega (arith, ints)) (omega arith))
    (Usual (λ e. omega (arith, ints)) (unused (pos 3_600)) (unused (pos 1_800)) refl)

pub returns-clause-amount : goal.returns-clause-amount
returns-clause-amount c = amount_of

pub returns-clause-only : goal.returns-clause-only
returns-clause-only c = λ a k. only_amount (pos 227_820_600) (pos 246_223_800) (pos 12_600) (pos 16_200) (pos 14_400)
    (omega arith) (omega arith) (omega arith) (pos 230_000_000) (pos 3_600) a amount_of k
