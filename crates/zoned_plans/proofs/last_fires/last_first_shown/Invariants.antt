use Rattle.zoned_plans.proofs.Words.{IsFirstShown, IsPastUntil, pos, unsigned_abs, zoned, ◌+ℤ◌}
use Rattle.zoned_plans.proofs.last_fires.last_first_shown.Given as goal

abbrev pub invariant-fires : goal.invariant-fires
invariant-fires g l = IsPastUntil (IsFirstShown (g.Tz.TimeZone.law l.zone).off (g.P.Plan.planned l.plan)) (zoned l.until).utc.s (zoned l.from).utc.s

abbrev pub decreases-fires : goal.decreases-fires
decreases-fires g l = unsigned_abs ((zoned l.from).utc.s +ℤ pos 8_334_601_228_800)
