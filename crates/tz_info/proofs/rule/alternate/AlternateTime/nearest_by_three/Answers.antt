use Rattle.tz_info.proofs.{AskedYears.never_at_all, Fits.fits, RuleChanges.nearest_of_year, Words.{SFits, arith, ints, pos, rules, w32, w64, ◌+ℤ◌}}
use Rattle.tz_info.proofs.rule.alternate.AlternateTime.nearest_by_three.Goals as goal

pub returns-then-never_changes : goal.returns-then-never_changes
returns-then-never_changes c = λ d is inside. never_at_all _ d (c.never_changes.ensures c.if-never_changes.true) is

pub returns : goal.returns
returns c =
    let fy = c.ranges.year in
    let next : SFits w32 (c.args.year +ℤ pos 1) = omega (arith, ints) in
    let fa : SFits w64 c.args.stretch.after = search rules in
    let fl : SFits w64 c.args.stretch.last = search rules in
    let f0 = c.first_second_of.type_inv in
    let f1 = c.first_second_of-2.type_inv in
    let f2 = c.later_of-after.type_inv in
    let f3 = c.earlier_of-last.type_inv in
    nearest_of_year _ _ _ _ _ _ _
    _ c.moments_near-moments.ensures.rule
    (rw (simp fits at c.first_second_of.ensures) at (simp fits at c.later_of-after.ensures)) (rw (simp fits at c.first_second_of-2.ensures) at
    (simp fits at c.earlier_of-last.ensures))
    (rw (simp fits at c.moments_near-moments.ensures.moments) at (simp fits at c.nearest_of.ensures))
