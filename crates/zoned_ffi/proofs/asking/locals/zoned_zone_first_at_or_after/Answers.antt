use Rattle.zoned_ffi.proofs.Words.{rules, to_z-of_z}
use Rattle.zoned_ffi.proofs.asking.locals.zoned_zone_first_at_or_after.Goals as goal

pub returns-clause-answered : goal.returns-clause-answered
returns-clause-answered c zero =
    let local = c.ranges.local in (c.deref.result.now, search rules, simp to_z-of_z at c.first_at_or_after.ensures)
