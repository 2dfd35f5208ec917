use Rattle.zoned_ref.proofs.Words.{arith}
use Rattle.zoned_ref.proofs.kept_zone.KeptZone.keep.Goals as goal

pub of-requires : goal.of-requires
of-requires c = grind arith

pub returns-in-Ok-clause-kept : goal.returns-in-Ok-clause-kept
returns-in-Ok-clause-kept c = grind arith

pub returns-in-Ok-clause-offsets : goal.returns-in-Ok-clause-offsets
returns-in-Ok-clause-offsets c = grind arith

pub returns-in-Err-clause-kept : goal.returns-in-Err-clause-kept
returns-in-Err-clause-kept c = grind arith
