use Rattle.tz_info.proofs.{
  AskedYears.{found_beyond, from_next, never_beyond, none_beyond, none_out, of_stretch},
  Fits.{fits},
  Words.{to_z-of_z, IsAhead, IsNearestMomentOf, IsRuleYear, IsYearOf, SFits, arith, pos, w32, w64, year_at, ◌-ℤ◌, ◌≡◌},
  rule.alternate.AlternateTime.nearest_beyond.Goals.{After-nearest_in, Else-not-is_rule_year},
}
use Rattle.tz_info.proofs.rule.alternate.AlternateTime.nearest_beyond.Goals as goal

-- the year that is looked at is one that the rule answers in
inside : (c : Else-not-is_rule_year)
    → SFits w64 c.year_at-year.result × SFits w32 c.year_at-year.result ×
    (c.year_at-year.result ≡ year_at c.args.forward c.args.first c.loop-step.step) × IsRuleYear c.year_at-year.result
inside c = grind (arith, to_z-of_z)

pub returns-then-not-is_rule_year : goal.returns-then-not-is_rule_year
returns-then-not-is_rule_year c =
    let ff = c.ranges.first in
    let fy = c.year_at-year.type_inv in
    let a = c.args.self.now in
    none_beyond _ a _ _ c.requires.near c.requires.none (none_out a _ _ _ c.requires.near.inside
    (λ i. let t = (simp fits at c.is_rule_year.ensures).1 (rw (simp fits at c.year_at-year.ensures) i) in cc)
    (simp fits at c.loop-step.invariant))

pub overflow_cast-year : goal.overflow_cast-year
overflow_cast-year c = grind (arith, to_z-of_z, inside)

pub moments_of-moments-requires : goal.moments_of-moments-requires
moments_of-moments-requires c = grind (arith, to_z-of_z, inside)

pub returns : goal.returns
returns c =
    let ff = c.ranges.first in
    let a = c.args.self.now in
    let e : c.loop-step.step ≡ 401 = omega arith in
    none_beyond _ a _ _ c.requires.near c.requires.none (never_beyond a _ _ (rw (← c.self.view_is) c.self.invariant.0) c.requires.near.inside
    (rw e at (simp fits at c.loop-step.invariant)))

-- what was found in that year
found : (c : After-nearest_in) → IsNearestMomentOf c.args.forward c.args.self.now
    (λ u. IsAhead c.args.forward c.args.second u × IsYearOf (u -ℤ pos 1) (year_at c.args.forward c.args.first c.loop-step.step)) c.nearest_in.result
found c =
    let fs = c.ranges.second in
    let year : c.moments_of-moments.result.year ≡ year_at c.args.forward c.args.first c.loop-step.step = grind (arith, to_z-of_z) in
    of_stretch c.args.forward c.args.self.now c.args.second _ _ _ _ (grind (arith, to_z-of_z)) (rw year at c.nearest_in.ensures)

pub returns-in-Some : goal.returns-in-Some
returns-in-Some c =
    let ff = c.ranges.first in
    found_beyond c.args.forward c.args.self.now c.args.second c.args.first c.requires.near c.requires.none _ _
    (simp fits at c.loop-step.invariant) (rw c.in-Some.is at (found (goal.at.returns-in-Some c).After-nearest_in))

pub loop-step-preserved : goal.loop-step-preserved
loop-step-preserved c =
    let ff = c.ranges.first in
    simp fits (from_next c.args.forward c.args.self.now c.args.second c.args.first c.requires.near c.loop-step.step
    (rw c.in_default.is at (found (goal.at.loop-step-preserved c).After-nearest_in)) (simp fits at c.loop-step.invariant))
