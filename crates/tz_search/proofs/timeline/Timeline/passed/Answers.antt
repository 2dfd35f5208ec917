use Rattle.tz_search.proofs.{
  Fits.fits,
  SearchSteps.{all_passed, digits-halved, near_hinted, none_passed},
  Words.{AreEnds, AreHints, SFits, arith, length, length-map, linear, map, pow_pos, rules, w64, ◌≡◌},
  timeline.Timeline.passed.{Given.{Over}, Goals.{After-self}},
}
use Rattle.tz_search.proofs.timeline.Timeline.passed.Goals as goal

-- what was given fits, and the first time, the last one and the hints are those of the items
kept : (g : Over) (c : After-self g) → SFits w64 c.args.second × (length (map g.T.Timed.time c.args.self.now) ≡ length c.args.self.now)
    × AreEnds (map g.T.Timed.time c.args.self.now) c.self.inside.ends × AreHints (map g.T.Timed.time c.args.self.now) c.self.inside.hints
kept g c = (c.ranges.second, length-map _ _, rw (← c.self.view_is) c.self.invariant.1, rw (← c.self.view_is) c.self.invariant.2)

pub read-requires : goal.read-requires
read-requires g c = grind (arith, digits-halved)

pub returns-then-self-second : goal.returns-then-self-second
returns-then-self-second g c = grind (linear, all_passed, digits-halved, kept)

pub count_probe-requires : goal.count_probe-requires
count_probe-requires g c = grind (arith, digits-halved)

pub returns-then-second-self : goal.returns-then-second-self
returns-then-second-self g c = grind (linear, digits-halved, none_passed)

pub passed_near-requires-clause-near : goal.passed_near-requires-clause-near
passed_near-requires-clause-near g c =
    let (fv, long, ends, hints) = kept g (goal.at.passed_near-requires-clause-near g c).After-self in
    let first : SFits w64 c.self.inside.ends.first = search rules in
    simp fits (near_hinted _ _ _ _ _ _ c.len-count.ensures.ordered
    (omega arith) (omega arith) ends hints (omega linear) (simp fits at c.seconds_between.ensures) (pow_pos _) c.in-Some.ensures)

pub passed_by_halves-requires : goal.passed_by_halves-requires
passed_by_halves-requires g c = grind (linear, kept)
