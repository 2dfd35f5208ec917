use Rattle.tz_info.proofs.{
  Fits.fits,
  QuestionLaws.{asked_at_time, asked_without},
  SegmentLaws.{with_transitions, without_transitions},
  Words.{arith, by_leap_time, linear, refl, rules},
}
use Rattle.tz_info.proofs.zone.time_zone.TimeZone.type_counted.Goals as goal

pub returns-then-has_no_transition : goal.returns-then-has_no_transition
returns-then-has_no_transition c =
    let fu = c.ranges.unix_time in
    let none = c.has_no_transition.ensures.0 c.if-has_no_transition.true in
    let e = c.rule_or_type.ensures in
    record {
      found = without_transitions (λ t. t.now) _ _ _ none (simp fits at e.found);
      cost = search rules;
      looked = search rules;
      questions = asked_without _ _ _ _ none e.asked e.unasked;
    }

pub returns-in-Some : goal.returns-in-Some
returns-in-Some c =
    let fu = c.ranges.unix_time in
    let time = (simp fits at c.in-Some.ensures.come).of_second in
    record {
      found = with_transitions (λ t. t.now) _ _ _ _ time (simp fits at c.type_after.ensures.found);
      cost = search rules;
      looked = search rules;
      questions = grind (linear, fits, asked_at_time);
    }

pub returns-in-None-clause-found : goal.returns-in-None-clause-found
returns-in-None-clause-found c =
    let fu = c.ranges.unix_time in
    (by_leap_time (grind arith) (simp fits at c.in-None.ensures.come), refl)
