use Rattle.zoned_ref.proofs.{Words.{SFits, rules, to_z-of_z, w64}, Days.{first_to_reach}}
use Rattle.zoned_ref.proofs.zone_days.TimeZoneRefZoneDays.first_second_at_or_after.Goals as goal

pub returns : goal.returns
returns c =
    let fa : SFits w64 c.held_first_at_or_after.result.at = search rules in
    simp to_z-of_z (first_to_reach _ _ c.zone-zone.ensures.narrow c.zone-zone.ensures.offsets _ _ _ c.args.local.now.in_range.0
    c.held_first_at_or_after.ensures)
