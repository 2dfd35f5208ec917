use Rattle.tests_pins.proofs.SetSavings.{amount_is, no_amount, only_amount}
use Rattle.tests_pins.specs.Savings.{summer}
use Rattle.tz_saving.proofs.{SideLaws.{candidate_is}, Words.{IsAmount, None, Some, arith, ints, pos, refl}}
use Rattle.tests_pins.proofs.savings.anadyr.Goals as goal

amount_of : IsAmount (summer (pos 386_420_400) (pos 402_231_600) (pos 46_800) (pos 46_800) (pos 43_200)) None
    (pos 390_000_000) (pos 3_600)
amount_of = amount_is (pos 386_420_400) (pos 402_231_600) (pos 46_800) (pos 46_800) (pos 43_200)
    (omega arith) (omega arith) (omega arith) (pos 390_000_000) (omega arith) (omega arith)
    None (Some (pos 3_600)) (pos 3_600)
    (no_amount (pos 46_800))
    (candidate_is (pos 46_800) (pos 43_200) (λ e. omega (arith, ints)) (omega arith))
    refl

pub returns-clause-amount : goal.returns-clause-amount
returns-clause-amount c = amount_of

pub returns-clause-only : goal.returns-clause-only
returns-clause-only c = λ a k. only_amount (pos 386_420_400) (pos 402_231_600) (pos 46_800) (pos 46_800) (pos 43_200)
    (omega arith) (omega arith) (omega arith) (pos 390_000_000) (pos 3_600) a amount_of k
