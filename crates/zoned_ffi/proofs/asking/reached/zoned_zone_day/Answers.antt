use Rattle.zoned_ffi.proofs.Words.{rules, to_z-of_z}
use Rattle.zoned_ffi.proofs.asking.reached.zoned_zone_day.Goals as goal

pub returns-in-Ok-clause-answered : goal.returns-in-Ok-clause-answered
returns-in-Ok-clause-answered c zero =
    let instant = c.ranges.instant in (c.deref.result.now, search rules, simp to_z-of_z at c.in-Ok.ensures)
