use Rattle.tz_info.proofs.{
  EntryChanges.{rose_less, rose_then},
  Fits.fits,
  SegmentEndLaws.begun_by,
  ShownSecondLaws.{at_end, at_segment, reached_by_rule, reached_in},
  Words.{RoseWithin, SFits, TypeAt, ap, arith, begin_of, digits, digits-more, ints, length, linear, pos, refl, rules, slice_get_read, sym, to_z, w32, w64, ◌+◌},
  Words.◌-ℤ◌,
  zone.time_zone.TimeZone.reached_at.Goals.After-latest_end-end,
}
use Rattle.tz_info.specs.{Steps.SegmentEnds.IsLatestEnd, Steps.Since.IsReachedSince}
use Rattle.tz_info.proofs.zone.time_zone.TimeZone.reached_at.Goals as goal

-- from the begin of the segment on
since : (c : After-latest_end-end)
    → IsReachedSince (TypeAt c.args.self.now) (begin_of c.self.inside.changes.items c.count-place.result) c.args.second (to_z w64 c.match-rule_at.reached-bits)
since c =
    let fs = c.ranges.second in
    let fb : SFits w64 c.begin_of-index.result.1 = search rules in
    let valid = rw c.self.view_is at c.self.invariant.valid in
    let made = rw c.self.view_is at c.self.invariant.list in
    let place = simp fits at c.count-place.ensures.count in
    elim c.match-rule_at.branch [
      | goal.in-Some w ↦
          let fr = w.reached_since-reached.type_inv in
          let is = rw (ap (λ z. z.rule) c.self.view_is) at w.in-Some.ensures in
          rw w.reached-is (simp fits (reached_by_rule _ _ _ _ valid made is.0 c.count-place.ensures.within is.1 _ _
          (rw c.begin_of-index.ensures.begin at (simp fits at w.reached_since-reached.ensures.reached))))
      | goal.in-None w ↦
          let fr = w.shown_at-reached.type_inv in
          let own = rw (ap (λ z. z.rule) c.self.view_is) at w.in-None.ensures in
          let has = slice_get_read _ _ _ _ refl (rw c.deref.ensures.value at c.begin_of-index.ensures.below) w.index.ensures in
          rw w.reached-is (simp fits (reached_in _ _ _ _ valid made c.requires.second _ _ (sym place) own
          (rw (c.begin_of-index.ensures.index, ap (λ z. z.types) c.self.view_is) at has) w.shown_at-reached.ensures.offset
          (simp fits at w.shown_at-reached.ensures.shown)))
    ]

ended : (c : After-latest_end-end) → RoseWithin c.args.probes.now c.latest_end-end.new.probes (digits (length c.args.self.now.transitions) + 2) 2
ended c =
    let more = digits-more _ _ (rw c.self.view_is at c.self.invariant.list).few in
    let first = rose_then _ _ _ _ _ _ _ c.count-place.ensures.cost c.begin_of-index.ensures.cost in
    elim c.match-rule_at.branch [
      | goal.in-Some w ↦ grind (linear, rose_less, rose_then)
      | goal.in-None w ↦ grind linear
    ]

latest : (c : After-latest_end-end) → IsLatestEnd c.args.self.now.types c.self.inside.changes.items c.count-place.result c.latest_end-end.result
latest c = rw (c.deref-2.ensures.value, ap (λ z. z.types) c.self.view_is) at c.latest_end-end.ensures.end

pub returns-then-reached-end : goal.returns-then-reached-end
returns-then-reached-end c =
    let d = (goal.at.returns-then-reached-end c).After-latest_end-end in
    let fs = c.ranges.second in
    let fe : SFits w64 c.latest_end-end.result = search rules in
    let fg : SFits w32 c.self.inside.extremes.greatest = search rules in
    let made = rw c.self.view_is at c.self.invariant.list in
    let ft : SFits w64 (c.latest_end-end.result -ℤ pos 1) = omega (arith, ints) in
    record {
      reached = simp fits (at_end _ _ _ _ (rw c.self.view_is at c.self.invariant.valid) made c.requires.second _ _ _ fg
          (rw (← c.self.view_is) c.self.invariant.extremes.greatest) c.count-place.ensures.within (since d) (latest d)
          (grind (linear, fits, begun_by)) fe (omega (arith, ints)));
      cost = ended d;
    }

pub returns-else-reached-end : goal.returns-else-reached-end
returns-else-reached-end c =
    let d = (goal.at.returns-else-reached-end c).After-latest_end-end in
    let fg : SFits w32 c.self.inside.extremes.greatest = search rules in
    record {
      reached = at_segment _ _ _ _ (rw c.self.view_is at c.self.invariant.valid) (rw c.self.view_is at c.self.invariant.list) c.requires.second _ _ _ fg
          (grind (linear, fits)) c.count-place.ensures.within (since d) (latest d) (omega (arith, ints));
      cost = ended d;
    }
