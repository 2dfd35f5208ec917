-- The first second at which clocks show a local time or a later one: that of the first segment that ends later.
use Rattle.tz_info.proofs.{
  ExtremeLaws.at_least_least,
  GapLaws.near_type,
  LeapStarts.saturated,
  SegmentLaws.{begins_rise, come_from, place_most, places_rise},
  WallSegments.{near_of, near_wide, type_there},
  Words.{AreRising, IsFirstAtOrAfter, IsNear, IsRuleOrNone, IsTable, IsUtOffset, IsValid, IsWide, IsWindowOf, List, LocalType, SFits, Some, Transition, TypeAt},
  Words.{Zone, [], arith, begin_of, by_lt_z, cases_lt, get_or, get_or_append_left, get_or_push, index_of, inl, length, length_push, linear, place_at, pos},
  Words.{rises, saturate_signed, slice_get, suc, w64, zero, ℕ, ℤ, ◌++◌, ◌+ℤ◌, ◌-ℤ◌, ◌<ℤ◌, ◌<◌, ◌↔◌, ◌∷◌, ◌≡◌, ◌≤ℤ◌, ◌≤◌, ◌⊎◌},
}
use Rattle.tz_search.proofs.DigitLaws.{digits-le, digits-less}
use Rattle.tz_info.specs.Steps.SegmentEnds.{AreEndsRising, IsFirstOf, IsFirstSegment, IsReached, end_of}

-- the numbers of steps of a search
pub ruleset steps = (digits-le, digits-less)

-- ---- ends
pub end_at : (types : List LocalType) (ts : List Transition) (j : ℕ) (t : LocalType) → slice_get types (index_of ts j) ≡ Some t
    → end_of types ts (suc j) ≡ saturate_signed w64 (begin_of ts (suc j) +ℤ t.offset)
end_at types ts j t has = grind arith

ends_rise : (types : List LocalType) (ts : List Transition) (j k : ℕ) → AreEndsRising types ts → 0 < j → j ≤ k → k ≤ length ts
    → end_of types ts j ≤ℤ end_of types ts k
ends_rise _ ts zero k rising some order within = grind linear
ends_rise types ts (suc j) zero rising some order within = grind linear
ends_rise types ts (suc j) (suc k) rising some order within =
    grind (linear, rises (λ i. end_of types ts (suc i)) _ (λ i h. let r = rising (suc i) (omega arith) h in omega linear) j k)

-- the segments before a place, and a local time
module _ (types : List LocalType) (ts : List Transition) (k : ℕ) (l : ℤ) where
  -- if the ends rise the last one decides
  pub reached_plain : AreEndsRising types ts → 0 < k → k ≤ length ts → (l <ℤ end_of types ts k) ↔ IsReached types ts k l
  reached_plain rising some within =
      ((λ h. grind arith), (λ r. let rise = ends_rise _ ts _ k rising r.some r.within within in omega linear))

  -- of one segment more
  pub reached_more : IsReached types ts (suc k) l ↔ (IsReached types ts k l ⊎ (l <ℤ end_of types ts (suc k)))
  reached_more = grind arith

-- the later of the segment's begin and the second that shows the local time by its type
pub first_of_made : (types : List LocalType) (ts : List Transition) (k i : ℕ) (l at begin shown : ℤ) (t : LocalType) → i ≡ index_of ts k
    → slice_get types i ≡ Some t → IsUtOffset t.offset
    → begin ≡ begin_of ts k → shown ≡ l -ℤ t.offset → ((u : ℤ) → (at ≤ℤ u) ↔ ((begin ≤ℤ u) × (shown ≤ℤ u))) → IsFirstOf types ts k l at t
first_of_made types ts k i l at begin shown t is listed offset begins shows from = grind linear

-- ---- seconds
-- in the segments before that place clocks show less, if none of them ends later
pub shows_less : (z : Zone) (ts : List Transition) (top k : ℕ) (l v : ℤ) (s : LocalType) → IsTable z ts top → k ≤ length ts → IsNear l
    → (IsReached z.types ts k l → ⊥) → SFits w64 v
    → place_at ts v < k → place_at ts v < top → TypeAt z v s → (v +ℤ s.offset) <ℤ l
shows_less z ts top k l v s table within near none fits before own here =
    let end = end_at _ ts (place_at ts v) s (table.listed v s fits own here) in
    let come = come_from ts (suc (place_at ts v)) v table.rising (omega arith) (omega arith) in
    by_lt_z l (end_of z.types ts (suc (place_at ts v))) (λ more. grind linear) (λ less. grind (linear, saturated))

pub begun_by : (ts : List Transition) (k : ℕ) (v : ℤ) → AreRising ts → k ≤ length ts → k ≤ place_at ts v → SFits w64 v → begin_of ts k ≤ℤ v
begun_by ts k v rising within come fits = grind (linear, come_from)

pub come_by : (ts : List Transition) (k : ℕ) (v : ℤ) → AreRising ts → k ≤ length ts → begin_of ts k ≤ℤ v → k ≤ place_at ts v
come_by ts k v rising within begun = grind (linear, come_from)

-- the first segment that reaches a local time
module _ (z : Zone) (ts : List Transition) (top k : ℕ) (l : ℤ) (table : IsTable z ts top) (wide : IsWide l) (first : IsFirstSegment z.types ts l k) where
  -- a near second shows the local time or a later one, so that the segment has begun by then
  pub begun_near : (low high : ℤ) → IsValid z → IsRuleOrNone z.rule → k ≤ top → IsWindowOf z l l low high → begin_of ts k ≤ℤ pos 10_000_000_000_000
  begun_near low high valid limits own reach =
      let near_high = reach.near_high in let (latest, here) = near_type z high valid limits near_high in
      let least = at_least_least z _ _ latest reach.least here in
      let fits : SFits w64 high = omega linear in grind (linear, shows_less z ts top k l high latest, begun_by ts k high, near_wide)

  -- and the next one has not
  before_next : (at : ℤ) (t : LocalType) → IsFirstOf z.types ts k l at t → k < length ts → at <ℤ begin_of ts (suc k)
  before_next at t is inner =
      let rise : begin_of ts k <ℤ begin_of ts (suc k) = grind (linear, cases_lt 0 k, begins_rise) in grind (linear, is.from (begin_of ts (suc k) -ℤ pos 1))

  -- the first second of the first segment that ends later
  pub first_there : (low high at : ℤ) (t : LocalType) → IsValid z → IsRuleOrNone z.rule → k < top → IsWindowOf z l l low high → IsFirstOf z.types ts k l at t
      → IsFirstAtOrAfter (TypeAt z) l at t
  first_there low high at t valid limits own reach is =
      let near = near_of l _ wide is.offset in let (since, from) = (is.from at).0 (omega linear) in
      let begun = begun_near low high valid limits (omega (arith, own)) reach in
      let most : at ≤ℤ pos 10_000_000_000_000 = grind linear in
      let come = come_by ts k at table.rising first.within since in
      let here : place_at ts at ≡ k = grind (linear, before_next at t is, come_from ts (suc k) at, place_most ts at) in
      record {
        shown = grind linear;
        first = λ v s h. by_lt_z v at
            (λ earlier.
            let rise = places_rise ts v at table.rising (omega linear) in
            let less = shows_less z ts top k l v s table first.within (near_wide l wide) first.before h.fits in
            let one = type_there z ts top k v s t table own h.fits is.listed in
            grind (linear, less, one, is.from v, begun_by ts k v table.rising first.within))
            (λ m. m);
      }

-- ---- making the latest ends
-- those of the first segments
pub record AreMaximaOf (types : List LocalType) (ts : List Transition) (k : ℕ) (maxima : List ℤ) (latest : ℤ) : Type 0 where
  pub count : length maxima ≡ k
  pub reached : (i : ℕ) (d l : ℤ) → i < k → SFits w64 l → (l <ℤ get_or maxima i d) ↔ IsReached types ts (suc i) l
  pub all : (l : ℤ) → SFits w64 l → (l <ℤ latest) ↔ IsReached types ts k l

pub maxima_more : (types : List LocalType) (ts : List Transition) (k : ℕ) (maxima out : List ℤ) (latest next : ℤ) → AreMaximaOf types ts k maxima latest
    → ((u : ℤ) → (next ≤ℤ u) ↔ ((latest ≤ℤ u) × (end_of types ts (suc k) ≤ℤ u))) → out ≡ maxima ++ (next ∷ []) → AreMaximaOf types ts (suc k) out next
maxima_more types ts k maxima out latest next made is e =
    let more : (l : ℤ) → SFits w64 l → (l <ℤ next) ↔ IsReached types ts (suc k) l = λ l fits.
    let r = reached_more types ts k l in let a = made.all l fits in let m = is l in
    (λ h. r.1 (by_lt_z l latest (λ b. inl (a.0 b)) (λ b. grind linear)), λ s. grind linear) in
    grind (linear, length_push, get_or_append_left, get_or_push)
