use Rattle.zoned_ffi.proofs.Words.{inr, to_z-of_z}
use Rattle.zoned_ffi.proofs.local_type.WrittenType.next.Goals as goal

pub returns-in-Err-clause-written : goal.returns-in-Err-clause-written
returns-in-Err-clause-written c =
    let fits = c.ranges.instant in
    inr ((simp to_z-of_z at c.in-Err.ensures.found.0), c.none.ensures)
