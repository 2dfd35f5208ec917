use Rattle.tz_info.proofs.{
  ChangeSearch.{change_made},
  Fits.{fits},
  RuleChanges.{rule_second},
  RuleLaws.{alternate_once},
  Words.{AlternateAt, SFits, arith, ints, pos, w64, ◌-ℤ◌},
}
use Rattle.tz_info.proofs.rule.alternate.AlternateTime.moment_at.Goals as goal

pub returns-then-second-le-FIRST_RULE_TIME : goal.returns-then-second-le-FIRST_RULE_TIME
returns-then-second-le-FIRST_RULE_TIME c = λ d is at.
    let low = rule_second _ (d.at -ℤ pos 1) d.before is.before in
    omega (arith, ints)

pub returns-then-second-gt-LAST_RULE_TIME : goal.returns-then-second-gt-LAST_RULE_TIME
returns-then-second-gt-LAST_RULE_TIME c = λ d is at.
    let high = rule_second _ d.at d.after is.after in
    omega (arith, ints)

pub returns : goal.returns
returns c =
    let a = c.args.self.now in
    let fs = c.ranges.second in
    let fb : SFits w64 (c.args.second -ℤ pos 1) = omega (arith, ints) in
    change_made (AlternateAt a) _ _ _ _ (alternate_once a) fs fb
    (simp fits at c.is_dst_at-before.ensures) (simp fits at c.is_dst_at-after.ensures) (simp fits at c.moment_between.ensures)
