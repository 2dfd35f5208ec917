-- What a zone's entries say of its table: the seconds before the last transition, or without a rule all, by the segments between entries.
use Rattle.tz_info.proofs.{
  EntryChanges.index_there,
  ExtremeLaws.window_made,
  Fits.fits,
  GapLaws.{IsNever, gap_found, not_less},
  LeapStarts.own_leap_time,
  Prefixes.search_found,
  SegmentLaws.{come_at_time, come_from, place_before, place_begin, place_most, segment_here, segment_most},
  WallSegments.{all_segments, leap_time_of, near_fits, shown_inside, table_alone, type_in_table, type_of_table, typed_answer},
  Words.{AreExtremes, AreLess, AreListed, Change, Extremes, HasGap, HasReach, IsBegin, IsBegun, IsBegunNear, IsIndex, IsJump, IsLeapTime, IsRuleOrNone},
  Words.{IsSegment, IsShownAmong, IsStart, IsTable, IsTableAnswer, IsTableLess, IsValid, IsWallAnswer, IsWide, IsWindowOf, LocalResult, LocalType, MatchOption},
  Words.{None, Option, SFits, Segment, Shown, ShownAmong, Some, TransitionRule, TypeAt, WallIndex, Zone, [], ap, arith, begin_of, cases_lt, index_of, inl, inr},
  Words.{least_time, length, linear, nil_from_length as no_items, offsets, passed, place_at, pos, refl, segment_of, shown_indexes, slice_get, suc, sym},
  Words.{table_count, top_of, w32, w64, ℕ, ℤ, ◌-ℤ◌, ◌<ℤ◌, ◌<◌, ◌↔◌, ◌∙◌, ◌≡◌, ◌≤ℤ◌, ◌≤◌},
  ZoneChanges.time_of,
}
use Rattle.tz_info.specs.{Steps.Entries.{AreEntries, Entries, as_listed}, declared.zone.made.shown.Shown.TheVariants.{Less, Once, Skipped}}

-- ---- the table's seconds
index_of_none : (k : ℕ) → index_of [] k ≡ 0
index_of_none k = grind linear

pub top_least : (rule : Option TransitionRule) (e : Entries) → length e.items ≤ e.all → length e.items ≤ top_of rule e
top_least rule e h = grind arith

module _ (z : Zone) (e : Entries) (valid : IsValid z) (made : AreEntries z e) where
  module _ (u : ℤ) (fits : SFits w64 u) (time : 0 < length z.transitions → (x : ℤ) × IsLeapTime z.leaps u x) where
    -- a second is one of the table's just where so few entries have come
    pub same_table : (segment_of z u < table_count z) ↔ (place_at e.items u < top_of z.rule e)
    same_table = elim (cases_lt 0 (length z.transitions)) [
      | inl some ↦ let (x, l) = time some in grind (linear, segment_most z u, place_most e.items u, come_at_time z u x, made.come u x fits)
      | inr none ↦ grind (linear, segment_most, place_most)
    ]

    -- and there the entries name its type
    named_there : slice_get z.types (index_of z.transitions (segment_of z u)) ≡ slice_get z.types (index_of e.items (place_at e.items u))
    named_there = elim (cases_lt 0 (length z.transitions)) [
      | inl some ↦
          let (x, l) = time some in
          let come = search_found z.transitions x (segment_of z u) _ (omega arith) (rw (← l.sum) at (segment_here z u valid.transitions.rising)) in
          cc (made.named u x fits l, index_there e u made.rising)
      | inr none ↦ grind (linear, no_items, index_of_none)
    ]

  pub table_of : IsTable z e.items (top_of z.rule e)
  table_of = record {
    rising = made.rising;
    some = valid.some;
    indexes = made.indexes;
    within = grind arith;
    listed = λ u t fits below k.
        let inside = (same_table u fits (grind (arith, time_of))).1 below in
        sym (named_there u fits (grind (arith, time_of))) ∙ type_in_table z _ u t valid.transitions.rising inside (record { type = k; segment = refl });
    in_force = λ u t near below has.
        let (x, l) = leap_time_of z u valid near in
        let inside = (same_table u (near_fits u near) (λ _. (x, l))).1 below in
        (type_of_table z (segment_of z u) u x t inside l (rw (← l.sum) at (segment_here z u valid.transitions.rising))
        (named_there u (near_fits u near) (λ _. (x, l)) ∙ has)).type;
  }

-- without leap seconds the transitions as listed have that table
own_place : (z : Zone) (u : ℤ) → length z.leaps ≡ 0 → place_at z.transitions u ≡ segment_of z u
unfolding segment_of
own_place z u none = ap (λ x. length (passed z.transitions x)) (own_leap_time z.leaps u none).sum

pub table_listed : (z : Zone) → IsValid z → length z.leaps ≡ 0 → IsTable z z.transitions (top_of z.rule (as_listed z.transitions))
table_listed z valid none = record {
  rising = valid.transitions.rising;
  some = valid.some;
  indexes = valid.transitions.indexes;
  within = grind arith;
  listed = λ u t fits below k. rw (own_place z u none) (type_in_table z _ u t valid.transitions.rising (grind (arith, own_place))
      (record { type = k; segment = refl }));
  in_force = λ u t near below has.
      let (x, l) = leap_time_of z u valid near in
      (type_of_table z (segment_of z u) u x t (grind (arith, own_place)) l (rw (← l.sum) at (segment_here z u valid.transitions.rising))
      (rw (own_place z u none) at has)).type;
}

-- ---- the answers of the table
pub table_typed : (z : Zone) (l : ℤ) (s : Shown) (answer : LocalResult LocalType) → IsValid z → AreListed z.types (shown_indexes s) answer → IsTableAnswer z l s
    → IsWallAnswer (ShownAmong z 0 (table_count z) l) answer
table_typed z l s answer valid listed (e, made, wall) =
    grind (linear, typed_answer, table_of, same_table, time_of)

-- the rule is asked from the last transition on
pub start_begun : (z : Zone) (e : Entries) (s : ℤ) → IsValid z → AreEntries z e → IsBegunNear e s → IsStart z.transitions z.leaps (length z.transitions) s
start_begun z e s valid made begun u x near l = grind (linear, come_at_time z u x, segment_most, made.come u x (near_fits u near), begun u)

pub begin_by : (z : Zone) (e : Entries) (s : ℤ) → IsValid z → AreEntries z e → least_time ≤ℤ s → IsBegun e s → IsBegin z s
begin_by z e s valid made low begun = grind (linear, made.some, made.few, place_most, begun least_time)

-- ---- the gap at the begin of a segment
-- the gap that the index knows, or clocks show less at all the table's seconds
pub gap_by_index : (z : Zone) (e : Entries) (l low high : ℤ) (s : Shown) (c : Option Change) → IsValid z → IsRuleOrNone z.rule → AreEntries z e
    → IsNever z l → IsWindowOf z l l low high
    → IsShownAmong z e.items 0 (top_of z.rule e) l s → IsJump z.types e.items s c
    → MatchOption c (IsTableLess z l) (λ d. HasGap (TypeAt z) l d.before d.after d.at)
gap_by_index z e l low high Less None valid limits made never reach shown jump = grind (linear, same_table, near_fits, time_of)
gap_by_index z e l low high (Skipped (suc k)) (Some c) valid limits made never reach shown (at, has_before, has) =
    let jump = shown.side in
    let start : ℤ = begin_of e.items (suc k) in
    let table = table_of z e valid made in
    let come = λ (u : ℤ). come_from e.items (suc k) u made.rising (omega arith) (omega arith) in
    let less : AreLess z l (start -ℤ pos 1) = grind linear in
    let earlier : jump.seen <ℤ start = grind linear in
    let most : start ≤ℤ high = grind (linear, not_less z l low high (start -ℤ pos 1) valid limits reach less) in
    let here = place_begin e.items (suc k) made.rising (omega arith) (omega arith) in
    let before = place_before e.items k made.rising (omega arith) in
    rw at (gap_found z l low high start c.after c.before never reach (omega linear, omega linear) less
    (table.in_force start c.after (omega linear, omega linear) (rw here jump.inside) (rw here has)) (jump.more c.after has)
    (table.in_force (start -ℤ pos 1) c.before (omega linear, omega linear) (rw before (omega arith)) (rw before (grind arith))))
gap_by_index z e l low high s c valid limits made never reach shown jump = grind arith

-- two seconds between which clocks may come to show the local time
pub reach_of : (z : Zone) (l : ℤ) (x : Extremes) → IsWide l → SFits w32 x.greatest → SFits w32 x.least → AreExtremes (offsets z.types z.rule) x → HasReach z l
reach_of z l x wide fg fl found = (_, _, window_made z l l x.greatest x.least (grind linear) (grind linear) fg fl found.greatest found.least)

-- ---- the index
-- without entries
module _ (z : Zone) (e : Entries) (s : ℤ) (none : length e.items ≡ 0) (begun : IsBegunNear e s)
    (never : 0 < length z.transitions → s ≡ pos 9_223_372_036_854_775_807) where
  -- the index of one answer
  abbrev plain : Shown → WallIndex
  plain b = record { before = b; pieces = []; maxima = []; rule_from = s }

  pub no_segments : top_of z.rule e ≡ 0 → IsIndex z e (plain Less)
  no_segments top = grind arith

  pub one_segment : (a : Segment) → IsValid z → AreEntries z e → 0 < top_of z.rule e → IsSegment z.types e.items 0 a → IsIndex z e (plain (Once a.index))
  one_segment a valid made some is =
      let table = table_of z e valid made in
      let top : top_of z.rule e ≡ 1 = omega arith in
      let answers : (l : ℤ) → IsWide l → IsShownAmong z e.items 0 (top_of z.rule e) l (Once a.index) = rw top (grind (arith, shown_inside table some is)) in
      grind arith

-- what a wall clock shows by the table alone
pub ruleset table_answers = (fits, table_alone, table_typed, all_segments)
