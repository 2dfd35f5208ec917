use Rattle.tz_info.proofs.{
  EntryChanges.{looks_most, rose_then},
  Fits.fits,
  TableLaws.{gap_by_index, reach_of},
  Words.{HasReach, IsAskedFor, IsShownAmong, arith, linear, rules, top_of, ◌≡◌},
  zone.time_zone.TimeZone.around.Goals.{After-answer-shown, After-answer_after-season},
}
use Rattle.tz_info.specs.{Looks.RoseByWallClock, Steps.Entries.AreEntries}
use Rattle.tz_info.proofs.zone.time_zone.TimeZone.around.Goals as goal

-- what the index says, and the zone's entries
said : (c : After-answer-shown)
    → IsShownAmong c.args.self.now c.self.inside.changes.items 0 (top_of c.args.self.now.rule c.self.inside.changes) c.args.local c.answer-shown.result
said c =
    let fl = c.ranges.local in
    rw (simp fits at c.answer-shown.ensures.answer, ← c.self.view_is) (grind (linear, fits))

entries : (c : After-answer-shown) → AreEntries c.args.self.now c.self.inside.changes
entries c = rw (← c.self.view_is) c.self.invariant.list

reach : (c : After-answer-shown) → HasReach c.args.self.now c.args.local
reach c = reach_of _ _ c.self.inside.extremes c.requires.local (search rules) (search rules) (grind arith)

pub answer_after-season-requires-clause-shown : goal.answer_after-season-requires-clause-shown
answer_after-season-requires-clause-shown c = grind (linear, fits, said, entries)

pub gap_at-requires : goal.gap_at-requires
gap_at-requires c =
    let fl = c.ranges.local in
    let d = (goal.at.gap_at-requires c).After-answer-shown in
    let reach = reach d in
    let never = rw c.in-None.is at (simp fits at c.answer_after-season.ensures.found) in
    record {
      local = search rules;
      room = omega arith;
      questions = omega arith;
      season = search rules;
      never = simp fits never;
      reach = simp fits reach;
      jump = simp fits (gap_by_index _ _ _ reach.0 reach.1 _ _ (rw c.self.view_is at c.self.invariant.valid)
          (rw (← c.self.view_is) c.self.invariant.limits) (entries d) never reach.2 (said d) (grind (linear, fits)));
    }

-- one search, and questions to the rule
cost : (c : After-answer_after-season) → RoseByWallClock c.args.self.now c.args.probes.now c.answer_after-season.new.probes
cost c = grind (linear, fits, looks_most)

asked : (c : After-answer_after-season) → IsAskedFor c.args.self.now c.args.local c.args.probes.now.rule_questions c.answer_after-season.new.probes.rule_questions
asked c =
    let same : c.answer-shown.new.probes.rule_questions ≡ c.args.probes.now.rule_questions = omega arith in grind (linear, fits)

pub returns-in-None-clause-cost : goal.returns-in-None-clause-cost
returns-in-None-clause-cost c =
    let d = (goal.at.returns-in-None-clause-cost c).After-answer_after-season in
    record { looked_up = _; cost = cost d; questions = asked d; sides = rose_then _ _ _ _ _ _ _ c.jump-jump.ensures.cost c.gap_at.ensures.cost }

pub returns-in-Single-clause-cost : goal.returns-in-Single-clause-cost
returns-in-Single-clause-cost c =
    let d = (goal.at.returns-in-Single-clause-cost c).After-answer_after-season in
    record { looked_up = _; cost = cost d; questions = asked d; sides = search arith }

pub returns-in-Ambiguous-clause-cost : goal.returns-in-Ambiguous-clause-cost
returns-in-Ambiguous-clause-cost c =
    let d = (goal.at.returns-in-Ambiguous-clause-cost c).After-answer_after-season in
    record { looked_up = _; cost = cost d; questions = asked d; sides = search arith }
