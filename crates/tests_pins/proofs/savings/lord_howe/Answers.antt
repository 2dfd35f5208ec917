use Rattle.tests_pins.proofs.SetSavings.{amount_is, only_amount}
use Rattle.tests_pins.specs.Savings.{summer}
use Rattle.tz_saving.proofs.{SideLaws.{candidate_is}, Words.{IsAmount, Both, None, Some, arith, ints, pos, refl}}
use Rattle.tests_pins.proofs.savings.lord_howe.Goals as goal

amount_of : IsAmount (summer (pos 1_601_739_000) (pos 1_617_462_000) (pos 37_800) (pos 39_600) (pos 37_800)) None
    (pos 1_609_459_200) (pos 1_800)
amount_of = amount_is (pos 1_601_739_000) (pos 1_617_462_000) (pos 37_800) (pos 39_600) (pos 37_800)
    (omega arith) (omega arith) (omega arith) (pos 1_609_459_200) (omega arith) (omega arith)
    (Some (pos 1_800)) (Some (pos 1_800)) (pos 1_800)
    (candidate_is (pos 39_600) (pos 37_800) (λ e. omega (arith, ints)) (omega arith))
    (candidate_is (pos 39_600) (pos 37_800) (λ e. omega (arith, ints)) (omega arith))
    (Both refl refl)

pub returns-clause-amount : goal.returns-clause-amount
returns-clause-amount c = amount_of

pub returns-clause-only : goal.returns-clause-only
returns-clause-only c = λ a k. only_amount (pos 1_601_739_000) (pos 1_617_462_000) (pos 37_800) (pos 39_600) (pos 37_800)
    (omega arith) (omega arith) (omega arith) (pos 1_609_459_200) (pos 1_800) a amount_of k
