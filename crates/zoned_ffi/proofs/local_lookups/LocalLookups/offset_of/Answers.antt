use Rattle.zoned_ffi.proofs.Words.{arith, to_z-of_z}
use Rattle.zoned_ffi.proofs.local_lookups.LocalLookups.offset_of.Goals as goal

pub returns-then-has-clause-offset : goal.returns-then-has-clause-offset
returns-then-has-clause-offset c = grind (arith, to_z-of_z)
