use Rattle.tz_info.proofs.{
  Fits.fits,
  Prefixes.Between,
  QuestionLaws.asked_for_window,
  SegmentLaws.{begin_next, between_passed, index_next},
  WalkLaws.{none_after, none_before, rose_by_walk, tried_segment, walked_more},
  WallSegments.all_segments,
  Words.{IsShownIn, IsWallAnswer, IsWindow, SFits, ap, arith, digits-le, length, linear, map_of, rules, sym, w32, ◌+◌, ◌∙◌, ◌≡◌},
  zone.time_zone.TimeZone.walked_answer.Goals.{After-passed_count-first, After-try_until-answer},
}
use Rattle.tz_info.proofs.zone.time_zone.TimeZone.walked_answer.Goals as goal

-- the window, and the first transitions, before it
begun : (c : After-passed_count-first) → IsWindow c.args.self.now c.args.local c.leap_time_near-low.result c.leap_time_near-high.result
    × Between c.args.self.now.transitions c.leap_time_near-low.result c.passed_count-first.result c.passed_count-first.result
begun c =
    let fl = c.ranges.local in
    let valid = rw c.self.view_is at c.self.invariant.valid in
    let fg : SFits w32 c.self.inside.extremes.greatest = search rules in
    let fe : SFits w32 c.self.inside.extremes.least = search rules in
    let low = simp fits at c.second_showing.ensures.value in
    let high = simp fits at c.second_showing-2.ensures.value in
    let ug = c.second_showing.type_inv in
    let uh = c.second_showing-2.type_inv in
    let fw = c.leap_time_near-low.type_inv in (
      record {
        greatest = c.self.inside.extremes.greatest;
        least = c.self.inside.extremes.least;
        is_greatest = grind (linear, fits);
        is_least = rw (← c.self.view_is) c.self.invariant.extremes.least;
        is_low = rw low at (simp fits at c.leap_time_near-low.ensures);
        is_high = rw high at (simp fits at c.leap_time_near-high.ensures);
      },
      between_passed _ _ _ valid.transitions.rising
          c.passed_count-first.ensures.within (simp fits at c.passed_count-first.ensures.passed),
    )

-- one segment more was tried, up to the next transition
tried : (c : After-try_until-answer)
    → IsWallAnswer (IsShownIn c.args.self.now c.args.local (c.loop-place.place + 1)) (map_of (λ r. r.now) c.try_until-answer.result)
tried c =
    let fl = c.ranges.local in
    let i = c.loop-place.invariant in
    tried_segment _ _ _ (rw c.self.view_is at c.self.invariant.valid) (omega arith) (grind arith) i.begin
    (grind (linear, fits))
    (rw i.index at (simp fits at c.try_until-answer.ensures)) (simp fits at i.found)

pub latest-current-requires-clause-room : goal.latest-current-requires-clause-room
latest-current-requires-clause-room c = grind (arith, digits-le)

pub loop-place-init : goal.loop-place-init
loop-place-init c =
    let fl = c.ranges.local in
    let (window, split) = begun (goal.at.loop-place-init c).After-passed_count-first in
    let p = c.passed_count-first.ensures.cost in let q = c.latest-current.ensures.cost in
    record {
      found = simp fits (none_before _ (rw (← c.self.view_is) c.self.invariant.valid) window split);
      begin = c.latest-current.ensures.begin;
      index = c.latest-current.ensures.index;
      listed = c.latest-current.ensures.listed;
      walked = grind arith;
    }

pub transition-next-requires-clause-room : goal.transition-next-requires-clause-room
transition-next-requires-clause-room c = grind (arith, digits-le)

pub returns-then-high-next : goal.returns-then-high-next
returns-then-high-next c =
    let at = goal.at.returns-then-high-next c in
    let fh = c.leap_time_near-high.type_inv in
    let (window, split) = begun at.After-passed_count-first in
    let valid = rw c.self.view_is at c.self.invariant.valid in
    let walked = simp fits at c.loop-place.invariant.walked in
    let time = ap (λ t. t.unix_leap_time) c.transition-next.ensures.item in let cost = c.transition-next.ensures.cost in
    record {
      found = none_after c.loop-place.place valid window c.transition-next.result (omega arith) (omega linear) _
          (tried at.After-try_until-answer);
      cost = rose_by_walk _ _ _ _ _ _ 1 _ _ _ window split (omega arith) walked (omega arith) (grind linear);
      counted = asked_for_window _ _ _ c.leap_time_near-high.result c.loop-place.place c.transition-next.result _ _
          valid window (omega arith) (omega linear)
          (grind (linear, fits));
    }

pub loop-place-preserved : goal.loop-place-preserved
loop-place-preserved c =
    let fl = c.ranges.local in
    let fh = c.leap_time_near-high.type_inv in
    let ts = c.args.self.now.transitions in let place = c.loop-place.place in let item = c.transition-next.ensures.item in
    record {
      found = simp fits (tried (goal.at.loop-place-preserved c).After-try_until-answer);
      begin = grind (linear, fits, begin_next);
      index = ap (λ t. t.type_index) item ∙ sym (index_next ts _ _ (omega arith));
      listed = c.transition-next.ensures.index;
      walked =
          simp fits (walked_more (omega arith) (simp fits at c.loop-place.invariant.walked) item (omega linear) c.transition-next.ensures.cost);
    }

pub try_last-requires-clause-seen : goal.try_last-requires-clause-seen
try_last-requires-clause-seen c = let e : c.loop-place.place ≡ length c.args.self.now.transitions = omega arith in grind linear

pub returns : goal.returns
returns c =
    let fl = c.ranges.local in
    let valid = rw c.self.view_is at c.self.invariant.valid in
    let fh = c.leap_time_near-high.type_inv in
    let (window, split) = begun (goal.at.returns c).After-passed_count-first in
    record {
      found = all_segments _ _ _ valid.transitions.rising (simp fits at c.try_last.ensures.found);
      cost = rose_by_walk _ _ _ _ _ _ 0 _ _ _ window split (omega arith) (simp fits at c.loop-place.invariant.walked) (omega arith) c.try_last.ensures.cost;
      counted = grind (linear, fits);
    }
