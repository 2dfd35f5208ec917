use Rattle.zoned_plans.proofs.Words.{IsPastUntil, IsShownFire, pos, unsigned_abs, zoned, ◌+ℤ◌}
use Rattle.zoned_plans.proofs.last_fires.last_shown.Given as goal

abbrev pub invariant-stretches : goal.invariant-stretches
invariant-stretches g l = IsPastUntil (IsShownFire (g.Tz.TimeZone.law l.zone).off (g.P.Plan.planned l.plan)) (zoned l.until).utc.s (zoned l.from).utc.s

abbrev pub decreases-stretches : goal.decreases-stretches
decreases-stretches g l = unsigned_abs ((zoned l.from).utc.s +ℤ pos 8_334_601_228_800)
