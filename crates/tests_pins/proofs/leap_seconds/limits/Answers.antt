use Rattle.tests_pins.proofs.{Words.{arith, entry, ints, pos}, LeapSeconds.{not_one_step}}
use Rattle.tests_pins.proofs.leap_seconds.limits.Goals as goal

pub returns-clause-too_close : goal.returns-clause-too_close
returns-clause-too_close c v = let later = (v.next 0 (entry (pos 0) 0) (omega arith)).later in absurd (omega arith)

pub returns-clause-two_at_once : goal.returns-clause-two_at_once
returns-clause-two_at_once c v = not_one_step (pos 0) (pos 2) (omega arith) (v.first (entry (pos 0) 0) (omega arith)).step

pub returns-clause-two_more : goal.returns-clause-two_more
returns-clause-two_more c v = not_one_step (pos 1) (pos 3) (omega arith) (v.next 0 (entry (pos 0) 0) (omega arith)).step

pub returns-clause-none_more : goal.returns-clause-none_more
returns-clause-none_more c v = let step = (v.next 0 (entry (pos 0) 0) (omega arith)).step in absurd (omega (arith, ints, step))

pub returns-clause-before_1970 : goal.returns-clause-before_1970
returns-clause-before_1970 c v = let since = (v.first (entry (pos 0) 0) (omega arith)).since_epoch in absurd (omega arith)
