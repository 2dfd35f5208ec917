use Rattle.tests_pins.proofs.Words.{arith, ints}
use Rattle.tests_pins.proofs.zones.valid.Goals as goal

pub returns-clause-other_flag : goal.returns-clause-other_flag
returns-clause-other_flag c v = grind (arith, ints, v.agrees)

pub returns-clause-other_offset : goal.returns-clause-other_offset
returns-clause-other_offset c v = grind (arith, ints, v.agrees)
