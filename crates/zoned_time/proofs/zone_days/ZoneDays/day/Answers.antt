use Rattle.zoned_time.proofs.{Days.{instants_of_day, no_day}, Words.{SFits, casts, rules, to_z-of_z, w64}}
use Rattle.zoned_time.proofs.zone_days.ZoneDays.day.Goals as goal

pub returns-in_err-last : goal.returns-in_err-last
returns-in_err-last g c =
    let fl : SFits w64 c.in_ok-seconds.seconds.last = search rules in
    let out = simp to_z-of_z at c.in_err-last.ensures in
    rw c.from_residual-in_err-last.ensures (no_day c.in_ok-seconds.ensures.shown_last out)

pub returns : goal.returns
returns g c = grind (casts, instants_of_day)
