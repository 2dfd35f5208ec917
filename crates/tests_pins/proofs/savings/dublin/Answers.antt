use Rattle.tests_pins.proofs.SetSavings.{amount_is, only_amount}
use Rattle.tests_pins.specs.Savings.{summer}
use Rattle.tz_saving.proofs.{SideLaws.{candidate_is}, Words.{IsAmount, Both, None, Some, arith, ints, neg_ℤ, pos, refl}}
use Rattle.tests_pins.proofs.savings.dublin.Goals as goal

amount_of : IsAmount (summer (pos 1_603_587_600) (pos 1_616_893_200) (pos 3_600) (pos 0) (pos 3_600)) None
    (pos 1_609_459_200) (neg_ℤ (pos 3_600))
amount_of = amount_is (pos 1_603_587_600) (pos 1_616_893_200) (pos 3_600) (pos 0) (pos 3_600)
    (omega arith) (omega arith) (omega arith) (pos 1_609_459_200) (omega arith) (omega arith)
    (Some (neg_ℤ (pos 3_600))) (Some (neg_ℤ (pos 3_600))) (neg_ℤ (pos 3_600))
    (candidate_is (pos 0) (pos 3_600) (λ e. omega (arith, ints)) (omega arith))
    (candidate_is (pos 0) (pos 3_600) (λ e. omega (arith, ints)) (omega arith))
    (Both refl refl)

pub returns-clause-amount : goal.returns-clause-amount
returns-clause-amount c = amount_of

pub returns-clause-only : goal.returns-clause-only
returns-clause-only c = λ a k. only_amount (pos 1_603_587_600) (pos 1_616_893_200) (pos 3_600) (pos 0) (pos 3_600)
    (omega arith) (omega arith) (omega arith) (pos 1_609_459_200) (neg_ℤ (pos 3_600)) a amount_of k
