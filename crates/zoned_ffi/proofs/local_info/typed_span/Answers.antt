use Rattle.tz_info.proofs.ForCallers.{type_not_refused}
use Rattle.zoned_ffi.proofs.Words.{to_z-of_z}
use Rattle.zoned_ffi.proofs.local_info.typed_span.Goals as goal

pub unreachable-requires : goal.unreachable-requires
unreachable-requires c =
    let fits = c.ranges.second in
    let refused = simp to_z-of_z at c.in-Err.ensures in
    type_not_refused _ c.args.second _ c.requires refused.0
