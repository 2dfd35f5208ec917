use Rattle.zoned_time.proofs.Words.{HasPassed, SFits, ap, arith, numbers, pos, rules, subst, sym, to_z, to_z-of_z, w32, ℤ, ◌+ℤ◌}
use Rattle.zoned_time.proofs.ReachedTimes.{last_passed, none_a_day_ahead, passed_now}
use Rattle.zoned_time.proofs.reached.reached_after_change.Goals as goal

pub returns-then-now-eq86399-clause-reached : goal.returns-then-now-eq86399-clause-reached
returns-then-now-eq86399-clause-reached g c =
    let fits : SFits w32 c.args.now = search rules in let is = simp to_z-of_z at (ap (to_z w32) c.if-now-eq86399.true) in
    simp to_z-of_z (last_passed (passed_now c.requires.range (ap (λ (k : ℤ). c.args.utc.secs +ℤ k) (sym c.requires.offset)))
    (λ h. none_a_day_ahead c.args.utc.secs (g.met.Tz.TimeZone.within_day c.args.zone.now)
    (subst (λ (l : ℤ). HasPassed (g.Tz.TimeZone.law c.args.zone.now).off l c.args.utc.secs) (omega numbers) h)))

pub returns-else-has_passed-clause-reached : goal.returns-else-has_passed-clause-reached
returns-else-has_passed-clause-reached g c =
    let fits : SFits w32 c.args.now = search rules in let more : SFits w32 (c.args.now +ℤ pos 1) = omega numbers in
    let not = simp to_z-of_z at c.if-has_passed.ensures in
    simp to_z-of_z (last_passed (passed_now c.requires.range (ap (λ (k : ℤ). c.args.utc.secs +ℤ k) (sym c.requires.offset)))
    (λ h. let no = not.1 (subst (λ (l : ℤ). HasPassed (g.Tz.TimeZone.law c.args.zone.now).off l c.args.utc.secs) (omega numbers) h) in
    grind arith))
