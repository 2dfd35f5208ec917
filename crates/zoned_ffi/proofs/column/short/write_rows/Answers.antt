use Rattle.zoned_ffi.proofs.{Words.{arith, length-set, to_z-of_z}, Slices.{written_after, zip_more}}
use Rattle.zoned_ffi.proofs.column.short.write_rows.Goals as goal

pub returns-in-Err-clause-answered : goal.returns-in-Err-clause-answered
returns-in-Err-clause-answered c = grind (arith, to_z-of_z)

pub loop-row-preserved : goal.loop-row-preserved
loop-row-preserved c = grind (arith, to_z-of_z, length-set, zip_more, written_after)
