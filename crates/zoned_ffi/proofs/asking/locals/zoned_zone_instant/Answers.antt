use Rattle.zoned_ffi.proofs.Words.{rules, to_z-of_z}
use Rattle.zoned_ffi.proofs.asking.locals.zoned_zone_instant.Goals as goal

pub returns-clause-answered : goal.returns-clause-answered
returns-clause-answered c zero =
    let local = c.ranges.local in
    (c.in-Some.choice, c.in-Some.ensures, (c.deref.result.now, search rules, simp to_z-of_z at c.at.ensures))
