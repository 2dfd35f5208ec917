use Rattle.zoned_ffi.proofs.Words.{refl, to_z-of_z}
use Rattle.zoned_ffi.proofs.column.row.looked_up.Goals as goal

pub returns-in-None : goal.returns-in-None
returns-in-None c = let time = c.ranges.time in rw c.in-ToLocal.is (refl, simp to_z-of_z at c.in-None.ensures)
