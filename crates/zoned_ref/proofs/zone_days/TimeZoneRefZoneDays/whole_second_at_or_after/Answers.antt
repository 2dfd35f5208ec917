use Rattle.zoned_ref.proofs.{Words.{SFits, arith, ints, rules, to_z-of_z, type_of, w64, zoned, ◌≡◌}, Days.{first_to_reach, zoned_first}}
use Rattle.zoned_ref.proofs.zone_days.TimeZoneRefZoneDays.whole_second_at_or_after.Goals as goal

pub instant_of-requires-clause-in_force : goal.instant_of-requires-clause-in_force
instant_of-requires-clause-in_force c = grind (arith, ints, to_z-of_z)

pub instant_of-requires-clause-offsets : goal.instant_of-requires-clause-offsets
instant_of-requires-clause-offsets c = rw c.zone-zone.ensures.zone at c.zone-zone.ensures.offsets

pub returns : goal.returns
returns c =
    let fa : SFits w64 c.held_first_at_or_after-found.result.at = search rules in let found = c.held_first_at_or_after-found in
    zoned_first _ _ found.result.at (λ d. type_of (zoned d).offset ≡ found.result.local_time_type.now) (λ d. zoned d) c.instant_of.result
    (first_to_reach _ _ c.zone-zone.ensures.narrow c.zone-zone.ensures.offsets _ _ _ c.args.local.now.in_range.0 found.ensures)
    (simp to_z-of_z at c.instant_of.ensures)
