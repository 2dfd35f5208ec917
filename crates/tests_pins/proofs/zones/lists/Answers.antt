use Rattle.tests_pins.proofs.Words.{arith, change, pos}
use Rattle.tests_pins.proofs.zones.lists.Goals as goal

pub returns-clause-at_once : goal.returns-clause-at_once
returns-clause-at_once c v = let rising = v.transitions.rising 0 1 (change (pos 0) 0) (omega arith) (omega arith) in absurd (omega (arith, rising))

pub returns-clause-no_such_type : goal.returns-clause-no_such_type
returns-clause-no_such_type c v = let index = v.transitions.indexes 0 (change (pos 0) 0) (omega arith) in absurd (omega (arith, index))
