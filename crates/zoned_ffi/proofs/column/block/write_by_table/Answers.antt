use Rattle.zoned_ffi.proofs.{Words.{arith, length-set, to_z-of_z}, Slices.{same_after, written_after, zip_more}}
use Rattle.zoned_ffi.proofs.column.block.write_by_table.Goals as goal

pub returns-in-Err-clause-answered : goal.returns-in-Err-clause-answered
returns-in-Err-clause-answered c = grind (arith, to_z-of_z, same_after)

pub loop-row-preserved : goal.loop-row-preserved
loop-row-preserved c = grind (arith, same_after)

pub loop-row-preserved-then-row-to : goal.loop-row-preserved-then-row-to
loop-row-preserved-then-row-to c = grind (arith, to_z-of_z, length-set, zip_more, written_after, same_after)
