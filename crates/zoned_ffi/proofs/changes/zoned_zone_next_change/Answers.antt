use Rattle.std.proofs.Common.{rules}
use Rattle.tz_info.specs.HeldChanges.{change_held}
use Rattle.zoned_ffi.proofs.Words.{to_z-of_z}
use Rattle.zoned_ffi.proofs.changes.zoned_zone_next_change.Goals as goal

pub returns-in-Some-next_held_change-clause-answered : goal.returns-in-Some-next_held_change-clause-answered
returns-in-Some-next_held_change-clause-answered c = λ _.
    let f = c.ranges.after in
    (_, search rules, (change_held c.in-Some-next_held_change.found, simp to_z-of_z at c.in-Some-next_held_change.ensures, search rules))
