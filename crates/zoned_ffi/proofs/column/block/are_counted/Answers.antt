use Rattle.zoned_ffi.proofs.{Columns.{within_more}, Words.{arith, to_z-of_z}}
use Rattle.zoned_ffi.proofs.column.block.are_counted.Goals as goal

pub loop-row-preserved : goal.loop-row-preserved
loop-row-preserved c = grind (arith, to_z-of_z, within_more)
