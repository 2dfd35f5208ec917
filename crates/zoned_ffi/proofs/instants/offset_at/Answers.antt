use Rattle.zoned_ffi.proofs.Words.{inr, refl, to_z-of_z}
use Rattle.zoned_ffi.proofs.instants.offset_at.Goals as goal

pub returns-in-Err : goal.returns-in-Err
returns-in-Err c =
    let fits = c.ranges.instant in
    inr ((simp to_z-of_z at c.in-Err.ensures.0), refl)
