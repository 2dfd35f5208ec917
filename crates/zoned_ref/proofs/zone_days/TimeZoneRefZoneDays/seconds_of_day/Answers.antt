use Rattle.zoned_ref.proofs.{Words.{SFits, arith, ints, rules, to_z-of_z, w64}, Days.{ends_of_day, never_on_day}}
use Rattle.zoned_ref.proofs.zone_days.TimeZoneRefZoneDays.seconds_of_day.Goals as goal

pub returns-in-Some : goal.returns-in-Some
returns-in-Some c =
    let ff : SFits w64 c.in-Some.found.first.at = search rules in let fl : SFits w64 c.in-Some.found.last.at = search rules in
    simp to_z-of_z (ends_of_day _ _ c.zone-zone.ensures.narrow c.zone-zone.ensures.offsets _ c.in-Some.found c.args.date.in_range c.in-Some.ensures)

pub returns-in-None : goal.returns-in-None
returns-in-None c = grind (arith, ints, never_on_day)
