use Rattle.zoned_plans.proofs.Words.{IsFirstShown, IsPast, pos, unsigned_abs, zoned, ◌-ℤ◌}
use Rattle.zoned_plans.proofs.policies.next_first_shown.Given as goal

abbrev pub invariant-fires : goal.invariant-fires
invariant-fires g l = IsPast (IsFirstShown (g.Tz.TimeZone.law l.zone).off (g.P.Plan.planned l.plan)) (zoned l.after).utc.s (zoned l.from).utc.s

abbrev pub decreases-fires : goal.decreases-fires
decreases-fires g l = unsigned_abs (pos 8_210_266_876_800 -ℤ (zoned l.from).utc.s)
