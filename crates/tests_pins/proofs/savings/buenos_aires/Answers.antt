use Rattle.tests_pins.proofs.SetSavings.{amount_is, no_amount, only_amount}
use Rattle.tests_pins.specs.Savings.{summer}
use Rattle.tz_saving.proofs.Words.{IsAmount, None, arith, neg_ℤ, pos, refl}
use Rattle.tests_pins.proofs.savings.buenos_aires.Goals as goal

amount_of : IsAmount (summer (pos 938_919_600) (pos 952_052_400) (neg_ℤ (pos 10_800)) (neg_ℤ (pos 10_800)) (neg_ℤ (pos 10_800))) None
    (pos 938_919_600) (pos 3_600)
amount_of = amount_is (pos 938_919_600) (pos 952_052_400) (neg_ℤ (pos 10_800)) (neg_ℤ (pos 10_800)) (neg_ℤ (pos 10_800))
    (omega arith) (omega arith) (omega arith) (pos 938_919_600) (omega arith) (omega arith)
    None None (pos 3_600)
    (no_amount (neg_ℤ (pos 10_800)))
    (no_amount (neg_ℤ (pos 10_800)))
    refl

pub returns-clause-amount : goal.returns-clause-amount
returns-clause-amount c = amount_of

pub returns-clause-only : goal.returns-clause-only
returns-clause-only c = λ a k. only_amount (pos 938_919_600) (pos 952_052_400) (neg_ℤ (pos 10_800)) (neg_ℤ (pos 10_800)) (neg_ℤ (pos 10_800))
    (omega arith) (omega arith) (omega arith) (pos 938_919_600) (pos 3_600) a amount_of k
