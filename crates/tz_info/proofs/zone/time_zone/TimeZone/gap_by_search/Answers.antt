use Rattle.tz_info.proofs.{
  ExtremeLaws.at_most_greatest,
  Fits.fits,
  GapLaws.{first_near, gap_at_first},
  Words.{IsNear, SFits, arith, ints, linear, pos, rules, w64, ◌-ℤ◌, ◌≤ℤ◌},
  zone.time_zone.TimeZone.gap_by_search.Goals.After-first_at_or_after-first,
}
use Rattle.tz_info.proofs.zone.time_zone.TimeZone.gap_by_search.Goals as goal

near : (c : After-first_at_or_after-first)
    → SFits w64 c.first_at_or_after-first.result.at × SFits w64 (c.first_at_or_after-first.result.at -ℤ pos 1)
    × (c.requires.reach.0 ≤ℤ c.first_at_or_after-first.result.at)
    × (c.first_at_or_after-first.result.at ≤ℤ c.requires.reach.1) × IsNear (c.first_at_or_after-first.result.at -ℤ pos 1)
near c =
    let ff : SFits w64 c.first_at_or_after-first.result.at = search rules in
    let first = c.first_at_or_after-first.result in
    let fl = c.ranges.local in
    let found = simp fits at c.first_at_or_after-first.ensures.found in
    let most = at_most_greatest _ first.at c.self.inside.extremes.greatest first.local_time_type.now
    (grind (linear, fits)) found.shown.type in
    let near = first_near c.args.self.now c.args.local c.requires.reach.0 c.requires.reach.1 first.at first.local_time_type.now
    (rw (← c.self.view_is) c.self.invariant.valid) (rw (← c.self.view_is) c.self.invariant.limits) c.requires.reach.2 found in
    (ff, omega (arith, ints), near.0, near.1, (omega (arith, ints), omega (arith, ints)))

pub overflow_sub-first : goal.overflow_sub-first
overflow_sub-first c = grind (linear, fits, near)

pub near_type_counted-requires-clause-near : goal.near_type_counted-requires-clause-near
near_type_counted-requires-clause-near c = grind (linear, fits, near)

pub returns-clause-gap : goal.returns-clause-gap
returns-clause-gap c =
    let (ff, fb, low, high, near) = near (goal.at.returns-clause-gap c).After-first_at_or_after-first in
    simp fits (gap_at_first _ _ _ _ _ _ _
    c.requires.never c.requires.reach.2 low high (grind (linear, fits)) (simp fits at c.near_type_counted.ensures.found))
