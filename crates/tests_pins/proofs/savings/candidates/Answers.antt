use Rattle.tests_pins.proofs.SetSavings.{no_amount}
use Rattle.tz_saving.proofs.{SideLaws.{no_candidate}, Words.{arith, ints, neg_ℤ, pos, refl}}
use Rattle.tests_pins.proofs.savings.candidates.Goals as goal

pub returns-clause-day : goal.returns-clause-day
returns-clause-day c = no_candidate (pos 50_400) (neg_ℤ (pos 39_600)) (λ h. let w = h.1 in omega (arith, ints))

pub returns-clause-hour : goal.returns-clause-hour
returns-clause-hour c =
    record { standard = pos 46_800; of_side = refl; difference = refl; some = λ e. omega (arith, ints); within = (omega arith, omega arith) }

pub returns-clause-nothing : goal.returns-clause-nothing
returns-clause-nothing c = no_amount (pos 3_600)

pub returns-clause-last : goal.returns-clause-last
returns-clause-last c =
    record { standard = pos 0; of_side = refl; difference = refl; some = λ e. omega (arith, ints); within = (omega arith, omega arith) }

pub returns-clause-first : goal.returns-clause-first
returns-clause-first c = no_candidate (pos 86_400) (pos 0) (λ h. let w = h.1 in omega (arith, ints))
