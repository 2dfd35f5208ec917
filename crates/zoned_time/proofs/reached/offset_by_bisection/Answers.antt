use Rattle.zoned_time.proofs.Words.{HasPassed, SFits, numbers, pos, rules, subst, to_z-of_z, w32, ℤ, ◌+ℤ◌}
use Rattle.zoned_time.proofs.ReachedTimes.{last_passed, none_a_day_ahead}
use Rattle.zoned_time.proofs.reached.offset_by_bisection.Goals as goal

pub loop-bracket-init : goal.loop-bracket-init
loop-bracket-init g c =
    let fits : SFits w32 c.args.passed = search rules in
    simp to_z-of_z (record {
      some = omega numbers;
      within = c.requires.within;
      end = omega numbers;
      passed = c.requires.passed;
      ahead = none_a_day_ahead c.args.utc.secs (g.met.Tz.TimeZone.within_day c.args.zone.now);
    })

pub returns-clause-reached : goal.returns-clause-reached
returns-clause-reached g c =
    let bracket = c.loop-bracket.bracket in let inv = c.loop-bracket.invariant in
    let fp : SFits w32 bracket.passed = search rules in let fa : SFits w32 bracket.ahead = search rules in
    let fm : SFits w32 (bracket.passed +ℤ pos 1) = omega numbers in
    let over = simp to_z-of_z at c.loop-bracket-test.false in
    simp to_z-of_z (last_passed inv.passed (λ h. inv.ahead
    (subst (λ (l : ℤ). HasPassed (g.Tz.TimeZone.law c.args.zone.now).off l c.args.utc.secs) (omega numbers) h)))
