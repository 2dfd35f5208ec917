use Rattle.std.proofs.lemmas.Int.{clamps}
use Rattle.tz_info.proofs.{
  Fits.fits,
  RuleChanges.rule_second,
  RuleReached.{changed_reached, still_reached},
  Words.{SFits, arith, ints, pos, rules, to_z-of_z, w64, ◌-ℤ◌},
}
use Rattle.tz_info.proofs.rule.alternate.AlternateTime.reached_since.Goals as goal

pub shown_at-requires : goal.shown_at-requires
shown_at-requires c =
    let time = rule_second _ _ _ (rw c.in-Some.is at c.type_and_change.ensures.nearest).is.before in grind (arith, to_z-of_z)

pub returns-in-Some-clause-reached : goal.returns-in-Some-clause-reached
returns-in-Some-clause-reached c =
    let fs = c.ranges.second in let fa : SFits w64 c.in-Some.change.at = search rules in
    let fm = c.max.type_inv in
    let fb : SFits w64 (c.in-Some.change.at -ℤ pos 1) = omega (arith, ints) in
    simp fits (changed_reached _ _ _ _ _ c.type_and_change.ensures.rule c.requires.wide c.requires.order (simp fits at c.type_and_change.ensures.in_force)
    c.shown_at-now.ensures.offset _ (rw c.in-Some.is at (simp fits at c.type_and_change.ensures.nearest)) c.shown_at.ensures.offset
    (omega (arith, ints, clamps)) (omega (arith, ints)))

pub returns-in_default-clause-reached : goal.returns-in_default-clause-reached
returns-in_default-clause-reached c =
    let fs = c.ranges.second in let fa : SFits w64 c.in-Some.change.at = search rules in
    let fn = c.shown_at-now.type_inv in
    simp fits (still_reached _ _ _ _ _
    c.type_and_change.ensures.rule c.requires.wide c.requires.order (simp fits at c.type_and_change.ensures.in_force)
    c.shown_at-now.ensures.offset (simp fits at c.shown_at-now.ensures.shown)
    (λ d is i. let k = (rw c.in-Some.is at (simp fits at c.type_and_change.ensures.nearest)).nearest d is i.1 in omega (arith, ints)))

pub returns-in_default-2-clause-reached : goal.returns-in_default-2-clause-reached
returns-in_default-2-clause-reached c =
    let fs = c.ranges.second in let fn = c.shown_at-now.type_inv in
    simp fits (still_reached _ _ _ _ _
    c.type_and_change.ensures.rule c.requires.wide c.requires.order (simp fits at c.type_and_change.ensures.in_force)
    c.shown_at-now.ensures.offset (simp fits at c.shown_at-now.ensures.shown) (λ d is i. (rw c.in_default.is at
    (simp fits at c.type_and_change.ensures.nearest)) d is i.1))
