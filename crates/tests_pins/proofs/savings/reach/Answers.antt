use Rattle.tests_pins.proofs.SetSavings.{few, many, near_enough, too_far}
use Rattle.tz_saving.proofs.Words.{arith, ints, neg_ℤ, pos}
use Rattle.tests_pins.proofs.savings.reach.Goals as goal

pub returns-clause-count : goal.returns-clause-count
returns-clause-count c = many 64 (neg_ℤ (pos 1)) (pos 63) (omega arith) (omega arith) (omega arith)

pub returns-clause-no_more : goal.returns-clause-no_more
returns-clause-no_more c = λ h. let l = few 64 (pos 63) h in omega (arith, ints)

pub returns-clause-within : goal.returns-clause-within
returns-clause-within c = λ h. let l = few 64 (pos 63) h in omega (arith, ints)

pub returns-clause-beyond : goal.returns-clause-beyond
returns-clause-beyond c = λ h. h (many 65 (neg_ℤ (pos 1)) (pos 64) (omega arith) (omega arith) (omega arith))

pub returns-clause-standard : goal.returns-clause-standard
returns-clause-standard c = near_enough

pub returns-clause-no_standard : goal.returns-clause-no_standard
returns-clause-no_standard c = too_far
