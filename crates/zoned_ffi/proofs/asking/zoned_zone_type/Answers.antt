use Rattle.zoned_ffi.proofs.Words.{rules, to_z-of_z}
use Rattle.zoned_ffi.proofs.asking.zoned_zone_type.Goals as goal

pub returns-clause-answered : goal.returns-clause-answered
returns-clause-answered c zero =
    let instant = c.ranges.instant in (c.deref.result.now, search rules, simp to_z-of_z at c.at.ensures)
