use Rattle.zoned_time.proofs.Words.{IsWithinDay, IsZoneSecond, SFits, numbers, refl, rules, subst, to_z-of_z, w32, w64}
use Rattle.zoned_time.proofs.ReachedTimes.{settled}
use Rattle.zoned_time.proofs.reached.offset_by_search.Goals as goal

pub returns-then-is_two_days_before-clause-within : goal.returns-then-is_two_days_before-clause-within
returns-then-is_two_days_before-clause-within g c =
    let fits : SFits w32 c.offset_stretch_at-stretch.result.offset = search rules in let s = c.offset_stretch_at-stretch.ensures in
    let inside : IsZoneSecond c.args.utc.secs = (omega numbers, omega numbers) in
    simp to_z-of_z (subst IsWithinDay (s.same _ inside s.not_before s.before) (g.met.Tz.TimeZone.within_day c.args.zone.now _ inside))

pub returns-then-is_two_days_before-clause-reached : goal.returns-then-is_two_days_before-clause-reached
returns-then-is_two_days_before-clause-reached g c =
    let fits : SFits w32 c.offset_stretch_at-stretch.result.offset = search rules in
    let fs : SFits w64 c.secs_since_epoch.result = search rules in let ff : SFits w64 c.offset_stretch_at-stretch.result.from = search rules in
    let long = (simp to_z-of_z at c.if-is_two_days_before.ensures).0 refl in
    simp to_z-of_z (settled (g.met.Tz.TimeZone.within_day c.args.zone.now) c.requires c.offset_stretch_at-stretch.ensures (omega numbers))
