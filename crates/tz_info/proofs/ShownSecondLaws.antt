-- When clocks show local times: the first and the last second of a stretch, the last local time up to a second, and the first second at or after one.
use Rattle.std.specs.Prelude.{if◌then◌else◌}
use Rattle.tz_info.proofs.{
  EntryChanges.index_below,
  ExtremeLaws.{at_least_least, at_most_greatest, listed_at_most},
  LeapStarts.saturated,
  SegmentEndLaws.{begun_by, come_by, end_at, shows_less},
  SegmentLaws.{come_from, place_before, place_begin, places_rise, segment_at, segment_most, type_from, type_in_from},
  TableLaws.{same_table, table_of, top_least},
  WallSegments.{leap_time_of, near_wide, type_there},
  Words.{AreEndsWithin, AreShownWithin, AreWithin, Bool, HasType, HaveOneTypeFrom, IsEndWithin, IsFirstAtOrAfter, IsGreatest, IsLeapTime, IsLeast, IsNear},
  Words.{IsNextRun, IsUtOffset, IsValid, IsWide, IsWindowOf, IsWithinRun, LocalType, Option, Precedes, RuleAt, SFits, ShownSeconds, Shows, ShowsWithin, Some},
  Words.{TransitionRule, TypeAt, Zone, arith, begin_of, by_lt_z, cases_lt, index_of, length, linear, offsets, place_at, pos, refl, segment_of, subst, suc},
  Words.{top_of, unsigned_abs, w32, w64, zero, ℕ, ℤ, ⊎_elim, ◌+ℤ◌, ◌-ℤ◌, ◌<ℤ◌, ◌<◌, ◌↔◌, ◌≡◌, ◌≤ℤ◌, ◌≤◌},
  ZoneChanges.time_of,
  ZoneLaws.{inside_listed, type_once},
}
use Rattle.tz_info.specs.{
  ShownSeconds.{IsLastReached},
  Steps.{Entries.{AreEntries, Entries}, SegmentEnds.{IsFirstSegment, IsLatestEnd, end_of}, Since.{IsFirstSince, IsReachedSince}},
}

-- ---- from run to run, until one shows such a local time
-- what shows a local time of the stretch lies in the window
pub all_within : (z : Zone) (from until low high : ℤ) → IsWindowOf z from until low high → AreWithin z from until low high
all_within z _ _ low _ w = record {
  near_low = w.near_low;
  near_high = w.near_high;
  within = λ u t h. grind (linear, at_most_greatest z u _ t w.greatest h.type, at_least_least z u _ t w.least h.type);
}

-- what shows a local time of the stretch lies between two seconds, and a run has one type
module _ {z : Zone} {from until low high : ℤ} (start end : ℤ) (t : LocalType) (all : AreWithin z from until low high)
    (type : HaveOneTypeFrom (TypeAt z) start end t) where
  -- in the run a second shows a local time of the stretch if and only if it lies between two seconds
  in_run : (u : ℤ) (s : LocalType) → start ≤ℤ u → u <ℤ end → ShowsWithin (TypeAt z) from until u s
      → IsWithinRun start end (from -ℤ t.offset) (until -ℤ t.offset) u
  in_run u s low high h = grind (linear, type_once)

  -- what the next run leaves, if it has none
  pub goes_on : (w : Bool) → IsNextRun w low high start end → ((u : ℤ) → IsWithinRun start end (from -ℤ t.offset) (until -ℤ t.offset) u → ⊥)
      → AreWithin z from until (if w then end else low) (if w then high else start)
  goes_on w run none = grind (linear, in_run)

  -- the first such second of the next run is the first of all, or the last one the last of all
  pub found_in_run : (w : Bool) (u : ℤ) → SFits w64 u → IsNextRun w low high start end → IsWithinRun start end (from -ℤ t.offset) (until -ℤ t.offset) u
      → ((v : ℤ) → IsWithinRun start end (from -ℤ t.offset) (until -ℤ t.offset) v → Precedes w u v) → IsEndWithin w (TypeAt z) from until u t
  found_in_run w u h k l m = grind (linear, in_run)

-- it leaves less
pub leaves_less : (w : Bool) (low high start end : ℤ) → low <ℤ high → IsNextRun w low high start end
    → unsigned_abs ((if w then high else start) -ℤ (if w then end else low)) < unsigned_abs (high -ℤ low)
leaves_less w low high start end h run = grind linear

-- ---- there is no other answer
-- of two seconds none comes before the other
one_end : (z : Zone) (u v : ℤ) (s t : LocalType) → TypeAt z u s → TypeAt z v t → u ≤ℤ v → v ≤ℤ u → (u ≡ v) × (s ≡ t)
one_end z u v s t here there h k = let same : u ≡ v = omega linear in (same, type_once z v s t (rw same at here) there)

pub one_answer : (z : Zone) (from until : ℤ) (a b : Option ShownSeconds) → AreShownWithin (TypeAt z) from until a
    → AreShownWithin (TypeAt z) from until b → a ≡ b
one_answer z from until a b h k = grind (arith, one_end)

-- ---- if one type is in force near the stretch
pub ordinary : (z : Zone) (from until greatest least : ℤ) (t : LocalType) (s : ShownSeconds) → SFits w64 (from -ℤ t.offset)
    → SFits w64 ((until -ℤ t.offset) -ℤ pos 1) → IsGreatest (offsets z.types z.rule) greatest → IsLeast (offsets z.types z.rule) least
    → HaveOneTypeFrom (TypeAt z) (from -ℤ greatest) (until -ℤ least) t → AreEndsWithin (TypeAt z) from until s
    → (s.first.at ≡ from -ℤ t.offset) × ((s.last.at +ℤ pos 1) ≡ until -ℤ t.offset)
ordinary z from until _ _ t s fits fits_last g l all h =
    let first = by_type _ _ h.first.shown in
    let last = by_type _ _ h.last.shown in
    let most = at_most_greatest z _ _ t g first.type in let fewest = at_least_least z _ _ t l first.type in
    let since = first.since in let before = last.before in
    let a = all (from -ℤ t.offset) (omega linear) (omega linear) in let b = all ((until -ℤ t.offset) -ℤ pos 1) (omega linear) (omega linear) in
    let low = h.first.first (from -ℤ t.offset) t (grind linear) in
    let high = h.last.last ((until -ℤ t.offset) -ℤ pos 1) t (grind linear) in
    (omega linear, omega linear)
  where
    by_type : (u : ℤ) (s : LocalType) → ShowsWithin (TypeAt z) from until u s → ShowsWithin (TypeAt z) from until u t
    by_type u s h =
        let most = at_most_greatest z u _ s g h.type in let fewest = at_least_least z u _ s l h.type in
        subst (ShowsWithin (TypeAt z) from until u) (type_once z u s t h.type (all u (omega linear) (omega linear))) h

-- ---- laws of the first second at or after a local time
pub one_first : (z : Zone) (local u v : ℤ) (s t : LocalType) → IsFirstAtOrAfter (TypeAt z) local u s → IsFirstAtOrAfter (TypeAt z) local v t → (u ≡ v) × (s ≡ t)
one_first z local u v s t h k = grind (linear, one_end)

-- ---- the last local time that clocks have shown up to a second: that of the segment that it lies in, or of the segments before
-- ---- the segment of the table in which the second lies
-- a valid zone's entries, the place of a segment, and a second
module _ (z : Zone) (e : Entries) (k : ℕ) (t : ℤ) (valid : IsValid z) (made : AreEntries z e) (wide : IsWide t) where
  pub reached_in : (l : ℤ) (s : LocalType) → place_at e.items t ≡ k → k < top_of z.rule e → HasType z (index_of e.items k) s → IsUtOffset s.offset
      → l ≡ t +ℤ s.offset → IsReachedSince (TypeAt z) (begin_of e.items k) t l
  reached_in l s place own has offset is =
      let table = table_of z e valid made in
      let fits : SFits w64 t = omega linear in
      record {
        at = t;
        local_type = s;
        near = (omega linear, omega linear);
        from = begun_by _ k t made.rising (omega arith) (omega arith) fits;
        not_after = omega linear;
        shown = grind linear;
        last = λ m u r from come shows.
            let low = come_by _ k u made.rising (omega arith) from in let high = places_rise _ u t made.rising come in
            let same = type_there z _ _ k u r s table own shows.fits has (omega arith) shows.type in grind linear;
        least = omega linear;
      }

  -- ---- the segments before
  -- the segment's last local time, and the latest end of the segments before
  module _ (reached end g : ℤ) (fit : SFits w32 g) (greatest : IsGreatest (offsets z.types z.rule) g) (within : k ≤ length e.items)
      (since : IsReachedSince (TypeAt z) (begin_of e.items k) t reached) (latest : IsLatestEnd z.types e.items k end) where
    -- no clock shows a later local time than one that is not before that of the segment, nor before the last one of those before it
    none_later : (l m u : ℤ) (s : LocalType) → reached ≤ℤ l → end ≤ℤ (l +ℤ pos 1) → u ≤ℤ t → Shows (TypeAt z) m u s → m ≤ℤ l
    none_later l m u s low high come shows = by_lt_z l m
        (λ more. ⊎_elim
        (λ before.
        let top = top_least z.rule e made.more in
        let most = at_most_greatest z u g s greatest shows.type in
        let fits : SFits w64 m = omega linear in
        let less = shows_less z e.items _ k m u s (table_of z e valid made) within (omega linear, omega linear)
        (λ r. let less = (latest m fits).1 r in omega linear) shows.fits before (omega arith) shows.type in
        omega linear)
        (λ not. let most = since.last m u s (begun_by _ k u made.rising within (omega arith) shows.fits) come shows in omega linear)
        (cases_lt (place_at _ u) k))
        (λ not. not)

    -- the last second of the segment whose end is the latest shows the local time before that end
    ended : (j : ℕ) → reached <ℤ end → begin_of e.items k ≤ℤ t → 0 < j → j ≤ k → (end -ℤ pos 1) <ℤ end_of z.types e.items j
        → IsLastReached (TypeAt z) t (end -ℤ pos 1)
    ended zero less begun some inside later = grind arith
    ended (suc j) less begun some inside later =
        let (s, has) = inside_listed _ _ (index_below z e j valid made (omega arith)) in
        let most = listed_at_most z _ g s greatest (index_below z e j valid made (omega arith)) has in
        let order = (come_from e.items (suc j) (begin_of e.items k) made.rising some (omega arith)).0
        (let all = place_begin _ k made.rising (omega arith) within in omega arith) in
        let next : ℤ = begin_of e.items (suc j) in
        let ahead = (saturated (next +ℤ s.offset) (t +ℤ pos 2_147_483_648) (omega linear, omega linear)).1 (omega linear) in
        let ends = rw (end_at _ _ j s has) at later in
        let past : (end -ℤ pos 1) <ℤ (next +ℤ s.offset) = grind (linear, saturated (next +ℤ s.offset) (end -ℤ pos 1) (omega linear, omega linear)) in
        let fits : SFits w64 (next -ℤ pos 1) = omega linear in
        let place = place_before e.items j made.rising (omega arith) in
        let top = top_least z.rule e made.more in
        let type = (table_of z e valid made).in_force (next -ℤ pos 1) s (omega linear, omega linear) (omega arith) (rw place has) in
        let last = none_later (end -ℤ pos 1) in
        let most = last _ (next -ℤ pos 1) s (omega linear) (omega linear) (omega linear) (record { fits = fits; type = type; shown = refl }) in
        record {
          at = next -ℤ pos 1;
          local_type = s;
          not_after = omega linear;
          shown = record { fits = fits; type = type; shown = omega linear };
          last = λ m u s. last m u s (omega linear) (omega linear);
        }

    -- if the latest end is later than the segment's last local time, it is the one before that end
    pub at_end : begin_of e.items k ≤ℤ t → SFits w64 end → reached <ℤ end → IsLastReached (TypeAt z) t (end -ℤ pos 1)
    at_end begun fits less =
        let by = (latest (end -ℤ pos 1) (omega linear)).0 (omega linear) in
        ended by.by less begun by.some by.within by.later

    -- else it is that of the segment
    pub at_segment : end ≤ℤ reached → IsLastReached (TypeAt z) t reached
    at_segment not = record {
      at = since.at;
      local_type = since.local_type;
      not_after = since.not_after;
      shown = since.shown;
      last = λ m u s. none_later _ m u s (omega linear) (omega linear);
    }

-- ---- laws of the last local time
pub reached_rises : (z : Zone) (t later l m : ℤ) → t ≤ℤ later → IsLastReached (TypeAt z) t l → IsLastReached (TypeAt z) later m → l ≤ℤ m
reached_rises z t _ l m rise h k = k.last l h.at h.local_type (omega linear) h.shown

pub one_reached : (z : Zone) (t l m : ℤ) → IsLastReached (TypeAt z) t l → IsLastReached (TypeAt z) t m → l ≡ m
one_reached z t l m h k =
    let up = reached_rises z t t l m (omega linear) h k in let down = reached_rises z t t m l (omega linear) k h in omega linear

pub adjoint : (z : Zone) (local u t m : ℤ) (s : LocalType) → IsFirstAtOrAfter (TypeAt z) local u s → IsLastReached (TypeAt z) t m → (u ≤ℤ t) ↔ (local ≤ℤ m)
adjoint z local u t m s first h = (
  λ come. let most = h.last (u +ℤ s.offset) u s come (grind linear) in omega linear,
  λ less. let least = first.first h.at h.local_type (grind linear) in omega linear,
)

-- ---- the segment whose types the rule gives: from the last transition on
module _ (z : Zone) (e : Entries) (rule : TransitionRule) (k : ℕ) (valid : IsValid z) (made : AreEntries z e) (is : z.rule ≡ Some rule)
    (within : k ≤ length e.items) (beyond : top_of z.rule e ≤ k) where
  -- at its seconds all transitions have come
  all_come : (u : ℤ) → begin_of e.items k ≤ℤ u → SFits w64 u → (0 < length z.transitions → (x : ℤ) × IsLeapTime z.leaps u x)
      → segment_of z u ≡ length z.transitions
  all_come u from fits time = grind (arith, come_by, segment_most, same_table z e valid made u fits time)

  to_rule : (u : ℤ) (t : LocalType) → begin_of e.items k ≤ℤ u → SFits w64 u → TypeAt z u t → RuleAt rule u t
  to_rule u t from fits here =
      rw is at (type_from z u t valid.transitions.rising (record { type = here; segment = all_come u from fits (grind (arith, time_of)) }))

  from_rule : (u : ℤ) (t : LocalType) → begin_of e.items k ≤ℤ u → IsNear u → RuleAt rule u t → TypeAt z u t
  from_rule u t from near here =
      let (x, l) = leap_time_of z u valid near in
      grind (linear, type_in_from z u x t l, segment_at z u (length z.transitions) valid.transitions.rising (all_come u from (omega linear) (λ _. (x, l))))

  -- what the rule's clocks show there the zone's clocks do
  pub reached_by_rule : (t l : ℤ) → IsReachedSince (RuleAt rule) (begin_of e.items k) t l → IsReachedSince (TypeAt z) (begin_of e.items k) t l
  reached_by_rule t l h = record {
    at = h.at;
    local_type = h.local_type;
    near = h.near;
    from = h.from;
    not_after = h.not_after;
    shown = grind (linear, from_rule);
    last = λ m u s from come shows. h.last m u s from come (grind (linear, to_rule));
    least = h.least;
  }

  pub first_by_rule : (l u : ℤ) (t : LocalType) → IsWide l → IsFirstSegment z.types e.items l k → IsFirstSince (RuleAt rule) (begin_of e.items k) l u t
      → IsFirstAtOrAfter (TypeAt z) l u t
  first_by_rule l u t wide first h =
      record {
        shown = grind (linear, from_rule);
        first = λ v s shows. ⊎_elim
            (λ before. grind (linear, shows_less z e.items _ k l v s (table_of z e valid made) within (near_wide l wide) first.before shows.fits before))
            (λ not. grind (linear, begun_by, to_rule)) (cases_lt (place_at e.items v) k);
      }
