use Rattle.tests_pins.proofs.SetSavings.{amount_is, none_later, only_amount, zero_later}
use Rattle.tests_pins.specs.Savings.{summer}
use Rattle.tz_saving.proofs.{SideLaws.{candidate_is}, Words.{IsAmount, Both, None, Some, arith, ints, neg_ℤ, pos, refl}}
use Rattle.tests_pins.proofs.savings.new_york.Goals as goal

amount_of : IsAmount (summer (pos 1_615_705_200) (pos 1_636_264_800) (neg_ℤ (pos 18_000)) (neg_ℤ (pos 14_400)) (neg_ℤ (pos 18_000))) None
    (pos 1_625_097_600) (pos 3_600)
amount_of = amount_is (pos 1_615_705_200) (pos 1_636_264_800) (neg_ℤ (pos 18_000)) (neg_ℤ (pos 14_400)) (neg_ℤ (pos 18_000))
    (omega arith) (omega arith) (omega arith) (pos 1_625_097_600) (omega arith) (omega arith)
    (Some (pos 3_600)) (Some (pos 3_600)) (pos 3_600)
    (candidate_is (neg_ℤ (pos 14_400)) (neg_ℤ (pos 18_000)) (λ e. omega (arith, ints)) (omega arith))
    (candidate_is (neg_ℤ (pos 14_400)) (neg_ℤ (pos 18_000)) (λ e. omega (arith, ints)) (omega arith))
    (Both refl refl)

pub returns-clause-amount : goal.returns-clause-amount
returns-clause-amount c = amount_of

pub returns-clause-only : goal.returns-clause-only
returns-clause-only c = λ a k. only_amount (pos 1_615_705_200) (pos 1_636_264_800) (neg_ℤ (pos 18_000)) (neg_ℤ (pos 14_400)) (neg_ℤ (pos 18_000))
    (omega arith) (omega arith) (omega arith) (pos 1_625_097_600) (pos 3_600) a amount_of k

pub returns-clause-winter : goal.returns-clause-winter
returns-clause-winter c = λ a k. none_later (pos 1_615_705_200) (pos 1_636_264_800) (neg_ℤ (pos 18_000)) (neg_ℤ (pos 14_400)) (neg_ℤ (pos 18_000))
    (omega arith) (omega arith) (omega arith) (pos 1_636_264_800) a (omega arith) k

pub returns-clause-is_winter : goal.returns-clause-is_winter
returns-clause-is_winter c = zero_later (pos 1_615_705_200) (pos 1_636_264_800) (neg_ℤ (pos 18_000)) (neg_ℤ (pos 14_400)) (neg_ℤ (pos 18_000))
    (omega arith) (omega arith) (omega arith) (pos 1_636_264_800) (omega arith)
