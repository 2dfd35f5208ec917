use Rattle.std.proofs.lemmas.Int.{clamps}
use Rattle.std.specs.Int.{int_max}
use Rattle.tz_info.proofs.{
  Fits.{fits},
  RuleReached.{changed_first, still_first},
  Words.{IsNear, SFits, ap, arith, ints, rules, w64, ◌-ℤ◌, ◌∙◌, ◌≡◌, ◌≤ℤ◌},
  rule.alternate.AlternateTime.first_since.Goals.{After-max-low, After-max-shown, in_default-via-in-Some+else-change-shown},
  rule.alternate.AlternateTime.first_since.Goals.{in_default-via-in_default},
}
use Rattle.tz_info.proofs.rule.alternate.AlternateTime.first_since.Goals as goal

-- the first second that may show it, which is near
low : (c : After-max-low) → SFits w64 c.max-low.result × IsNear c.max-low.result
    × (c.max-low.result ≡ int_max c.args.begin (c.args.local -ℤ int_max c.args.self.now.std.offset c.args.self.now.dst.offset))
low c = let fm : SFits w64 c.max-low.result = search rules in
    let std = c.offset.ensures.value ∙ ap (λ t. t.offset) c.std.ensures.value in
    let dst = c.offset-2.ensures.value ∙ ap (λ t. t.offset) c.dst.ensures.value in omega (arith, ints, clamps)

pub type_and_change-requires-clause-time : goal.type_and_change-requires-clause-time
type_and_change-requires-clause-time c =
    let (fm, near, is) = low (goal.at.type_and_change-requires-clause-time c).After-max-low in
    omega (arith, ints)

-- the second at which the type in force then shows it, which is near too
shown : (c : After-max-shown) → IsNear c.max-low.result → SFits w64 c.max-low.result → SFits w64 c.max-shown.result × IsNear c.max-shown.result
    × (c.max-shown.result ≡ int_max c.max-low.result (c.args.local -ℤ c.type_and_change.result.0.now.offset))
shown c near fm =
    let ft : SFits w64 c.max-shown.result = search rules in
    (ft, omega (arith, ints, clamps), omega (arith, ints, clamps))

pub returns-in-Some-clause-first : goal.returns-in-Some-clause-first
returns-in-Some-clause-first c =
    let (fm, near, low_is) = low (goal.at.returns-in-Some-clause-first c).After-max-low in
    let (ft, near_shown, shown_is) = shown (goal.at.returns-in-Some-clause-first c).After-max-shown near fm in
    let fb = c.ranges.begin in let fl = c.ranges.local in
    let fa : SFits w64 c.in-Some.change.at = search rules in
    let on = simp fits at c.if-change-shown.true in
    let come : c.in-Some.change.at ≤ℤ c.max-shown.result = omega (arith, ints) in
    simp fits (changed_first _ _ _ _ c.type_and_change.ensures.rule low_is _ (simp fits at c.type_and_change.ensures.in_force) _ shown_is
    _ near near_shown (rw c.in-Some.is at (simp fits at c.type_and_change.ensures.nearest)) come)

pub returns-in_default-clause-first : goal.returns-in_default-clause-first
returns-in_default-clause-first c =
    let (fm, near, low_is) = low (goal.at.returns-in_default-clause-first c).After-max-low in
    let (ft, near_shown, shown_is) = shown (goal.at.returns-in_default-clause-first c).After-max-shown near fm in
    let fb = c.ranges.begin in let fl = c.ranges.local in
    simp fits (still_first _ _ _ _ c.type_and_change.ensures.rule low_is _ (simp fits at c.type_and_change.ensures.in_force) _ shown_is near near_shown
    (elim c.in_default.branch [
      | in_default-via-in-Some+else-change-shown w ↦
          let fa : SFits w64 w.in-Some.change.at = search rules in
          let off = simp fits at w.if-change-shown.false in
          λ d is i. let k = (rw w.in-Some.is at (simp fits at c.type_and_change.ensures.nearest)).nearest d is i.0 in omega (arith, ints)
      | in_default-via-in_default w ↦
          λ d is i. (rw w.in_default.is at (simp fits at c.type_and_change.ensures.nearest)) d is i.0
    ]))
