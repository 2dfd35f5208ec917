use Rattle.tz_info.proofs.Words.{arith, ints, to_z-of_z}
use Rattle.tz_info.proofs.rule.alternate.AlternateTime.new.Goals as goal

pub invariant_of-result : goal.invariant_of-result
invariant_of-result c = grind (arith, to_z-of_z)

pub returns : goal.returns
returns c = grind (arith, to_z-of_z)

pub returns-in_default-at : goal.returns-in_default-at
returns-in_default-at c = grind (arith, ints)

pub seconds_by_kind-ends-requires-clause-offset : goal.seconds_by_kind-ends-requires-clause-offset
seconds_by_kind-ends-requires-clause-offset c = grind (arith, to_z-of_z)
