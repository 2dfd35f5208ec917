use Rattle.zoned_ffi.proofs.Words.{FitsSigned, rules, to_z-of_z, w32}
use Rattle.zoned_ffi.proofs.asking.zoned_zone_offset.Goals as goal

pub returns-clause-answered : goal.returns-clause-answered
returns-clause-answered c zero =
    let instant = c.ranges.instant in let offset : FitsSigned w32 c.offset_at.result = search rules in
    (c.deref.result.now, search rules, simp to_z-of_z (simp to_z-of_z at c.offset_at.ensures))
