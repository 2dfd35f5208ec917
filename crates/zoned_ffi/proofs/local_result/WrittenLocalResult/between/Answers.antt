use Rattle.zoned_ffi.proofs.Words.{arith, ints, to_z-of_z}
use Rattle.zoned_ffi.proofs.local_result.WrittenLocalResult.between.Goals as goal

pub returns : goal.returns
returns c = grind (arith, ints, to_z-of_z)
