use Rattle.tests_pins.proofs.SetSavings.{amount_is, no_amount, only_amount}
use Rattle.tests_pins.specs.Savings.{summer}
use Rattle.tz_saving.proofs.{SideLaws.{candidate_is}, Words.{IsAmount, None, Some, arith, ints, pos, refl}}
use Rattle.tests_pins.proofs.savings.lisbon.Goals as goal

amount_of : IsAmount (summer (pos 701_830_800) (pos 717_555_600) (pos 0) (pos 3_600) (pos 3_600)) None
    (pos 701_830_800) (pos 3_600)
amount_of = amount_is (pos 701_830_800) (pos 717_555_600) (pos 0) (pos 3_600) (pos 3_600)
    (omega arith) (omega arith) (omega arith) (pos 701_830_800) (omega arith) (omega arith)
    (Some (pos 3_600)) None (pos 3_600)
    (candidate_is (pos 3_600) (pos 0) (λ e. omega (arith, ints)) (omega arith))
    (no_amount (pos 3_600))
    refl

pub returns-clause-amount : goal.returns-clause-amount
returns-clause-amount c = amount_of

pub returns-clause-only : goal.returns-clause-only
returns-clause-only c = λ a k. only_amount (pos 701_830_800) (pos 717_555_600) (pos 0) (pos 3_600) (pos 3_600)
    (omega arith) (omega arith) (omega arith) (pos 701_830_800) (pos 3_600) a amount_of k
