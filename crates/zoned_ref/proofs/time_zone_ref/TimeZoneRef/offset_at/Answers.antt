use Rattle.zoned_ref.proofs.Words.{to_z-of_z, type_not_refused}
use Rattle.zoned_ref.proofs.time_zone_ref.TimeZoneRef.offset_at.Goals as goal

pub unreachable-requires : goal.unreachable-requires
unreachable-requires c =
    let fits = c.ranges.second in let there = c.zone.ensures.offsets c.args.second c.requires in let refused = simp to_z-of_z at c.in-Err.ensures in
    type_not_refused _ c.args.second _ there.in_force refused.0
