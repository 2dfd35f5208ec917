use Rattle.zoned_plans.proofs.Words.{IsPast, IsShownFire, pos, unsigned_abs, zoned, ◌-ℤ◌}
use Rattle.zoned_plans.proofs.policies.next_shown.Given as goal

abbrev pub invariant-stretches : goal.invariant-stretches
invariant-stretches g l = IsPast (IsShownFire (g.Tz.TimeZone.law l.zone).off (g.P.Plan.planned l.plan)) (zoned l.after).utc.s (zoned l.from).utc.s

abbrev pub decreases-stretches : goal.decreases-stretches
decreases-stretches g l = unsigned_abs (pos 8_210_266_876_800 -ℤ (zoned l.from).utc.s)
