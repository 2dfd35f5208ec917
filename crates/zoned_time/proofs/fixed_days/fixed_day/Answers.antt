use Rattle.zoned_time.proofs.{Words.{IsZoneSecond, SFits, ap, day_of, numbers, pos, rules, to_z-of_z, w64, ◌+ℤ◌, ◌∙◌}, Days.{fixed_ends}}
use Rattle.zoned_time.proofs.fixed_days.fixed_day.Goals as goal

pub returns : goal.returns
returns g c =
    let date = c.args.date in let inside_u = c.fixed_second-first.ensures.first.reached.in_zone in
    let ff : SFits w64 c.fixed_second-first.result = search rules in let shown = c.fixed_second-first.ensures.shown in
    let midnight = ap (λ r. r.s) c.and_time.ensures.value in
    let within = g.met.Tz.TimeZone.within_day c.args.zone.now c.fixed_second-first.result inside_u in
    let last : IsZoneSecond (c.fixed_second-first.result +ℤ pos 86_399) = (omega numbers, omega numbers) in
    let fl : SFits w64 (c.fixed_second-first.result +ℤ pos 86_399) = omega numbers in
    simp to_z-of_z (fixed_ends (g.Tz.TimeZone.law c.args.zone.now) c.requires (day_of date) c.fixed_second-first.result inside_u last (shown ∙ midnight))
