use Rattle.zoned_ffi.proofs.Words.{arith, to_z-of_z}
use Rattle.zoned_ffi.proofs.local_info.shown_span.Goals as goal

pub returns : goal.returns
returns c = grind (arith, to_z-of_z)
