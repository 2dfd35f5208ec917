use Rattle.tests_pins.proofs.Words.{arith, plain_type, pos, refl}
use Rattle.tests_pins.proofs.kept_zones.not_kept.Goals as goal

pub returns-clause-not_narrow : goal.returns-clause-not_narrow
returns-clause-not_narrow c = λ h. let within = h.types 0 (plain_type (pos 0)) (omega arith) in let low = within.1 in absurd (omega (arith, low))

pub returns-clause-wide_rule : goal.returns-clause-wide_rule
returns-clause-wide_rule c = λ h. let within = h.rule 0 (plain_type (pos 0)) (omega arith) in let low = within.1 in absurd (omega (arith, low))

pub returns-clause-wide : goal.returns-clause-wide
returns-clause-wide c = (refl, λ h. let within = h.types 0 (plain_type (pos 0)) (omega arith) in let low = within.1 in absurd (omega (arith, low)))
