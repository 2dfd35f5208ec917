use Rattle.zoned_ffi.proofs.Words.{arith, ap, rules, to_z-of_z}
use Rattle.zoned_ffi.proofs.asking.around.zoned_zone_local_info.Goals as goal

pub at-requires : goal.at-requires
at-requires c = grind (arith, to_z-of_z)

pub returns-clause-answered : goal.returns-clause-answered
returns-clause-answered c zero =
    let local = c.ranges.local in
    let stamp = simp to_z-of_z at c.in-Some-from_timestamp_opt.ensures in
    (stamp.0.0, (c.deref.result.now, search rules, rw (ap (λ r. r.s) stamp.1) at c.at.ensures))
