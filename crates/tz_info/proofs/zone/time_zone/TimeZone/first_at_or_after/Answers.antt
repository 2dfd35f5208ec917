use Rattle.tz_info.proofs.{
  EntryChanges.{rose_less, rose_then},
  Fits.fits,
  SegmentEndLaws.{begun_near, first_there},
  ShownSecondLaws.first_by_rule,
  TableLaws.{reach_of, table_of, top_least},
  Words.{HasReach, IsRuleOrNone, IsValid, SFits, ap, arith, cases_eq, digits, digits-more, inl, inr, linear, rules, w64, ℕ, ◌*◌, ◌+◌, ◌<◌, ◌≤◌},
  zone.time_zone.TimeZone.first_at_or_after.Goals.After-first_reaching-place,
}
use Rattle.tz_search.proofs.DigitLaws.{digits-less}
use Rattle.tz_info.specs.{Steps.Entries.AreEntries, Steps.SegmentEnds.IsFirstSegment}
use Rattle.tz_info.proofs.zone.time_zone.TimeZone.first_at_or_after.Goals as goal

-- the zone's entries, and the first segment that ends later
entries : (c : After-first_reaching-place) → AreEntries c.args.self.now c.self.inside.changes
entries c = rw (← c.self.view_is) c.self.invariant.list

valid : (c : After-first_reaching-place) → IsValid c.args.self.now
valid c = rw (← c.self.view_is) c.self.invariant.valid

reach : (c : After-first_reaching-place) → HasReach c.args.self.now c.args.local
reach c = reach_of _ _ c.self.inside.extremes c.requires.local (search rules) (search rules) (grind linear)

first : (c : After-first_reaching-place) → IsFirstSegment c.args.self.now.types c.self.inside.changes.items c.args.local c.first_reaching-place.result
first c = grind (linear, fits)

-- the probes of the search are fewer than the bound, if there is an entry
fewer : (n m : ℕ) → n ≤ m → digits n ≤ 2 * digits m × (0 < n → digits n + 1 ≤ 2 * digits m)
fewer n m few =
    let more = digits-more n m few in (omega arith, λ some. let less = digits-less 0 n some (omega arith) in omega arith)

pub returns-in_default : goal.returns-in_default
returns-in_default c =
    let d = (goal.at.returns-in_default c).After-first_reaching-place in
    let fl = c.ranges.local in
    let z = c.args.self.now in
    let limits : IsRuleOrNone z.rule = rw (← c.self.view_is) c.self.invariant.limits in
    let own = rw (ap (λ z. z.rule) c.self.view_is) at c.in_default.ensures in
    let is = rw (c.deref-in_default.ensures.value, ap (λ z. z.types) c.self.view_is) at (simp fits at c.first_of.ensures.first) in
    let bound = fewer _ _ (entries d).few in
    record {
      found = first_there z _ _ _ _ (table_of z _ (valid d) (entries d)) c.requires.local (first d) _ _ _ _ (valid d) limits own (reach d).2 is;
      cost = grind (linear, fits, cases_eq, rose_less, rose_then);
      few = omega arith;
    }

pub first_since-requires-clause-near : goal.first_since-requires-clause-near
first_since-requires-clause-near c =
    let d = (goal.at.first_since-requires-clause-near c).After-first_reaching-place in
    let fb : SFits w64 c.begin_of-begin.result.1 = search rules in
    let z = c.args.self.now in
    let limits : IsRuleOrNone z.rule = rw (← c.self.view_is) c.self.invariant.limits in
    simp fits (rw c.begin_of-begin.ensures.begin (begun_near z _ _
    _ _ (table_of z _ (valid d) (entries d)) c.requires.local (first d) _ _
    (valid d) limits (grind (linear, fits, top_least, entries)) (reach d).2))

pub returns : goal.returns
returns c =
    let d = (goal.at.returns c).After-first_reaching-place in
    let is = rw (ap (λ z. z.rule) c.self.view_is) at c.in-Some.ensures in
    let bound = fewer _ _ (entries d).few in
    record {
      found = first_by_rule c.args.self.now c.self.inside.changes _ _ (valid d) (entries d) is.0 (first d).within is.1
          c.args.local c.first_since.result.at _ c.requires.local (first d)
          (grind (linear, fits));
      cost = elim (cases_eq _ 0) [
        | inl none ↦ let free = c.begin_of-begin.ensures.free none in grind linear
        | inr some ↦ rose_less _ _ _ _ _ _ (rose_then _ _ _ _ _ _ _ (rose_then _ _ _ _ _ _ _ c.first_reaching-place.ensures.cost
            c.begin_of-begin.ensures.cost) c.first_since.ensures.cost) (omega arith) (omega arith)
      ];
      few = omega arith;
    }
