use Rattle.zoned_ffi.proofs.{Words.{arith, length-set, to_z-of_z}, Slices.{written_after, zip_more}}
use Rattle.zoned_ffi.proofs.column.block.write_kept.Goals as goal

pub loop-row-preserved : goal.loop-row-preserved
loop-row-preserved c = grind (arith, to_z-of_z, length-set, zip_more, written_after)
