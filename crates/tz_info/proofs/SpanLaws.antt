-- Spans: at each second between two that have a type there is one, and from the last change to the next one it is the same; the last span.
use Rattle.tz_info.proofs.{
  ChangeSearch.{Typed, nearest_moved, stays},
  ExtremeLaws.{at_least_least, at_most_greatest},
  LeapOrder.{before_found, follow, none_counted},
  LeapStarts.saturated,
  RuleChanges.rule_second,
  RuleLaws.rule_year,
  SecondTypes.last_is,
  SegmentLaws.{come_at_time, come_by_time, segment_most, segments_rise},
  Words.{Alternate as AlternateRule, AlternateAt, AreExtremes, AreLeapSeconds, Change, Extremes, HasNoChange, IfSome, IsAhead, IsAlternateRefused, IsBegin},
  Words.{IsBeginBy, IsChange, IsEndBy, IsFirst, IsFromLast, IsInSpan, IsLast, IsLastSpan, IsLastTyped, IsLeapTime, IsOutOfForce, IsRefusedBy, IsRuleOrNone},
  Words.{IsRuleTime, IsSecondOfNearest, IsShownOnce, IsSince, IsSpan, IsSpanAt, IsTypeRefused, IsTyped, IsUnixTime, IsUntil, IsValid, IsWide, LastSpan},
  Words.{LeapSecond, List, LocalType, None, Option, SFits, Shows, Some, Span, TransitionRule, TypeAt, Zone, arith, by_leap_time, by_lt_z, by_rule, cases_lt},
  Words.{correction_before, false, floor_div, length, lies_in, linear, neg_ℤ, offsets, option_map, pos, refl, saturate_signed, segment_of, sym, true, w32, w64},
  Words.{ℤ, ⊎_elim, ◌+ℤ◌, ◌-ℤ◌, ◌-◌, ◌<ℤ◌, ◌<◌, ◌∙◌, ◌≡◌, ◌≤ℤ◌, ◌⊎◌},
  ZoneChanges.{begins, farther_first, from_rule, nearer_first, out_before, out_from, refused_on, rule_found, time_of, to_rule},
  ZoneLaws.{inside_listed, type_decided, type_once},
}
use Rattle.tz_info.specs.declared.rule.transition_rule.TransitionRule.TheVariants.{Alternate}

-- ---- between two seconds that have a type each has one
-- before 1970 no entry has come
early : (es : List LeapSecond) (v x : ℤ) → AreLeapSeconds es → v <ℤ pos 0 → IsLeapTime es v x → x ≡ v
early es v x valid h l = let none = none_counted _ v es (follow es valid) (grind linear) in grind linear

early_unix : (es : List LeapSecond) (x u : ℤ) → AreLeapSeconds es → x <ℤ pos 0 → IsUnixTime es x u → u ≡ x
early_unix es x u valid h is =
    let none : pos 0 ≡ correction_before es x =
    before_found es (record { unix_leap_time = pos 0; correction = pos 0 }) valid 0 x _ (omega arith) (grind linear) (grind linear) in omega linear

-- a second after all transitions of a zone with a rule
module _ (z : Zone) (a : AlternateRule) (v : ℤ) (valid : IsValid z) (rule : z.rule ≡ Some (Alternate a)) (all : segment_of z v ≡ length z.transitions) where
  -- before the years of a rule of two types its zone's last transition has not come
  not_before : (y : ℤ) → 0 < length z.transitions → IsLeapTime z.leaps v y → v <ℤ neg_ℤ (pos 67_768_100_504_812_800) → ⊥
  not_before y some l h =
      let last = inside_listed z.transitions (length z.transitions - 1) (omega arith) in
      let agrees = rw (rule, last.1) at valid.agrees in
      let within : IsRuleTime agrees.unix_time = rule_second a _ _ agrees.of_rule in
      let count = come_at_time z v y l in
      let come = (come_by_time _ y (length z.transitions - 1) last.0 valid.transitions.rising (omega arith)).0 (omega arith) in
      let time : last.0.unix_leap_time ≤ℤ y = rw (last_is z.transitions last.0 last.1) at come in
      let same = early z.leaps v y valid.leaps (omega linear) l in
      let unix = early_unix _ _ _ valid.leaps (omega linear) agrees.of_transition in
      omega linear

  not_before_second : (u y : ℤ) (t : LocalType) → (0 < length z.transitions → IsLeapTime z.leaps v y) → u ≤ℤ v → TypeAt z u t
      → v <ℤ neg_ℤ (pos 67_768_100_504_812_800) → ⊥
  not_before_second u y t l h k low =
      let m = segment_most z u valid.transitions.rising in
      grind (linear, cases_lt 0 (length z.transitions), not_before y, rule_second a u t, to_rule z a u t rule valid)

  not_after_second : (u : ℤ) (t : LocalType) → v ≤ℤ u → TypeAt z u t → pos 67_767_976_170_460_799 <ℤ v → ⊥
  not_after_second u t h k high = grind (linear, segment_most z u valid.transitions.rising, rule_second a u t, to_rule z a u t rule valid, segments_rise)

pub out_of_years : (u : ℤ) → IsAlternateRefused u → (u <ℤ neg_ℤ (pos 67_768_100_504_812_800)) ⊎ (pos 67_767_976_170_460_799 <ℤ u)
out_of_years u refused = let lies = lies_in (floor_div u 86_400) in grind (linear, rule_year)

-- all transitions have come by the leap time of the second
pub all_come : (z : Zone) (v x : ℤ) → IsValid z → (0 < length z.transitions → IsLeapTime z.leaps v x) → IsFromLast z x → segment_of z v ≡ length z.transitions
all_come z v x _ l last = grind (arith, come_at_time, segment_most)

-- two seconds with types in a valid zone, and one between them
module _ (z : Zone) (a b v : ℤ) (s t : LocalType) (valid : IsValid z) (low : a ≤ℤ v) (high : v ≤ℤ b) (h : TypeAt z a s) (k : TypeAt z b t) where
  rule_between : (rule : Option TransitionRule) (x : ℤ) → z.rule ≡ rule → (0 < length z.transitions → IsLeapTime z.leaps v x) → IsFromLast z x
      → IsRefusedBy rule v → ⊥
  rule_between (Some (Alternate r)) x is l last refused =
      let all = all_come z v x valid l last in
      ⊎_elim (not_before_second z r v valid is all a x s l low h) (not_after_second z r v valid is all b t high k) (out_of_years v refused)
  rule_between _ x is l last refused = refused

  pub typed_between : IsRuleOrNone z.rule → Typed (TypeAt z) v
  typed_between limits = ⊎_elim (λ found. found) (λ refused. absurd (between refused)) (type_decided z v valid limits) where
    between : IsTypeRefused z v → ⊥
    between (by_leap_time some r) = refused_on _ v b _ valid.leaps high r (time_of z b t some k)
    between (by_rule x of_second last r) = rule_between _ x refl of_second last r

-- ---- from the last change up to u to the first one after it
-- if no change comes between two seconds that have types, these are the same
pub no_change : (z : Zone) (u v : ℤ) (s t : LocalType) → IsValid z → IsRuleOrNone z.rule → SFits w64 u → SFits w64 v → u ≤ℤ v
    → HasNoChange (TypeAt z) (λ w. (u <ℤ w) × (w ≤ℤ v)) → TypeAt z u s → TypeAt z v t → s ≡ t
no_change z u v s t valid limits fits fits_end h none k l =
    type_once z v s t (stays _ u v s fits fits_end h none (λ w since until. typed_between z u v w s t valid since until k l limits) k) l

-- ---- a span goes from the last change or the first second with a type to the next change or the last second with a type
-- a second with a type, from which on the span's seconds come, and up to which they come
record IsLow (z : Zone) (u : ℤ) (t : LocalType) (last : Option Change) (from : Option ℤ) : Type 0 where
  low : ℤ
  typed : IsTyped z low
  since : IsSince from u
  later : (v : ℤ) → SFits w64 v → IsSince from v → (low ≤ℤ v) × IsSince (option_map (λ c. c.at) last) v
  begins : IfSome from (λ x. IsOutOfForce (TypeAt z) t (x -ℤ pos 1))

record IsHigh (z : Zone) (u : ℤ) (t : LocalType) (next : Option Change) (until : Option ℤ) : Type 0 where
  high : ℤ
  typed : IsTyped z high
  before : IsUntil until u
  earlier : (v : ℤ) → SFits w64 v → IsUntil until v → (v ≤ℤ high) × IsUntil (option_map (λ c. c.at) next) v
  ends : IfSome until (IsOutOfForce (TypeAt z) t)

-- a second with its type in a valid zone
module _ (z : Zone) (u : ℤ) (t : LocalType) (valid : IsValid z) (limits : IsRuleOrNone z.rule) (fits : SFits w64 u) (h : TypeAt z u t) where
  low_of : (last : Option Change) (from : Option ℤ) → IsLast (TypeAt z) (λ v. v ≤ℤ u) last → IsBeginBy z last from → IsLow z u t last from
  low_of None None last k = grind linear
  low_of None (Some x) last k = record {
    low = x;
    typed = k.typed;
    since = by_lt_z u x (λ l. absurd (k.before (typed_between z u x _ t _ valid (omega linear) (omega linear) h k.typed.1 limits))) (λ m. m);
    later = grind linear;
    begins = grind linear;
  }
  low_of (Some c) from last k = grind (linear, out_before, no_change z c.at u c.after t valid limits last.is.fits fits last.inside)

  high_of : (next : Option Change) (until : Option ℤ) → IsFirst (TypeAt z) (λ v. u <ℤ v) next → IsEndBy z next until → IsHigh z u t next until
  high_of None None next k = grind linear
  high_of None (Some x) next k = record {
    high = x -ℤ pos 1;
    typed = k.1;
    before = by_lt_z u x (λ l. l) (λ m. absurd (k.2 (typed_between z _ u x _ t valid (omega linear) m k.1.1 h limits)));
    earlier = grind linear;
    ends = grind linear;
  }
  high_of (Some c) until next k = grind (linear, out_from, no_change z u (c.at -ℤ pos 1) t c.before valid limits fits next.is.fits_before (omega linear))

pub span_between : (z : Zone) (u : ℤ) (t : LocalType) (last next : Option Change) (from until : Option ℤ) → IsValid z → IsRuleOrNone z.rule → SFits w64 u
    → TypeAt z u t
    → IsLast (TypeAt z) (λ v. v ≤ℤ u) last → IsFirst (TypeAt z) (λ v. u <ℤ v) next → IsBeginBy z last from → IsEndBy z next until
    → IsSpanAt (TypeAt z) u (record { local_time_type = t; from = from; until = until })
span_between z u t _ _ from until valid limits fits h before after begin end =
    let low = low_of z u t valid limits fits h _ _ before begin in
    let high = high_of z u t valid limits fits h _ _ after end in
    let inside : IsInSpan _ u =
    grind linear in record {
      in_force_then = h;
      inside = inside;
      span = record {
        some = (u, inside);
        each = λ v i.
            let (from, since) = low.later v i.fits i.since in let (up_to, until) = high.earlier v i.fits i.until in
            let (s, k) = typed_between z _ _ v _ _ valid from up_to low.typed.1 high.typed.1 limits in
            let same = by_lt_z v u
            (λ l. no_change z v u s t valid limits i.fits fits (omega linear) (grind linear) k h)
            (λ m. sym (no_change z u v t s valid limits fits i.fits m (grind linear) h k)) in
            grind linear;
        begins = low.begins;
        ends = high.ends;
      };
    }

-- ---- a second lies in one span
pub until_less : (until : Option ℤ) (u v : ℤ) → IsUntil until v → u ≤ℤ v → IsUntil until u
until_less until u v h l = grind linear

-- between two seconds of a span no change comes
pub no_change_within : (z : Zone) (s : Span) (d : Change) → IsSpan (TypeAt z) s → IsInSpan s (d.at -ℤ pos 1) → IsInSpan s d.at → IsChange (TypeAt z) d → ⊥
no_change_within z s d h i j is =
    is.differ (type_once z _ _ _ is.before (grind linear)
    ∙ type_once z _ _ _ (h.each d.at j) is.after)

same_begin : (p q : Option ℤ) → ((x : ℤ) → p ≡ Some x → IsSince q (x -ℤ pos 1) → ⊥) → ((x : ℤ) → q ≡ Some x → IsSince p (x -ℤ pos 1) → ⊥) → p ≡ q
same_begin None q h k = grind linear
same_begin (Some x) None h k = grind linear
same_begin (Some x) (Some y) h k = let a = h x refl in let b = k y refl in grind linear

same_end : (p q : Option ℤ) → ((x : ℤ) → p ≡ Some x → IsUntil q x → ⊥) → ((x : ℤ) → q ≡ Some x → IsUntil p x → ⊥) → p ≡ q
same_end None q h k = grind linear
same_end (Some x) None h k = grind linear
same_end (Some x) (Some y) h k = let a = h x refl in let b = k y refl in grind linear

pub span_once : (z : Zone) (a b : Span) (u : ℤ) → IsSpan (TypeAt z) a → IsSpan (TypeAt z) b → IsInSpan a u → IsInSpan b u → a ≡ b
span_once z a b u h k i j =
    let same = type_once z u _ _ (h.each u i) (k.each u j) in
    let from = same_begin a.from b.from (λ x is. grind linear) (λ x is. grind linear) in
    let until = same_end a.until b.until (λ x is. grind linear) (λ x is. grind linear) in grind linear

-- ---- by a rule of two types
-- from its last change up to u, if that comes after `begin`, to its next one
pub span_of_rule : (z : Zone) (a : AlternateRule) (u begin from until : ℤ) (t : LocalType) (previous : Option ℤ) → IsValid z → IsRuleOrNone z.rule → SFits w64 u
    → z.rule ≡ Some (Alternate a) → IsBegin z begin → AlternateAt a u t → IsSecondOfNearest false (AlternateAt a) (IsAhead false u) previous
    → (begin <ℤ from) × (previous ≡ Some from) → IsSecondOfNearest true (AlternateAt a) (IsAhead true u) (Some until)
    → IsSpanAt (TypeAt z) u (record { local_time_type = t; from = Some from; until = Some until })
span_of_rule z a u begin from until t previous valid limits fits rule h at (Some c, is, e) after (Some d, nearest, ends) =
    let same = sym e ∙ after.1 in
    let late : begin <ℤ c.at = let at_from : from ≡ c.at = cc in rw at_from at after.0 in
    let up_to = is.inside in
    let all = begins z _ u valid h (rule_second a u t at) (omega linear) in
    let last = rule_found z a false u _ (Some c) valid rule h
    (record { is = is.is; inside = (late, up_to); nearest = λ d is_d inside. is.nearest d is_d inside.1 }) in
    let first = rule_found z a true u begin (Some d) valid rule h (nearest_moved true _ _ _ (λ v.
    (begin <ℤ v) × IsAhead true u v) (Some d) (λ d is_d l. (is_d, l.1)) (λ d is_d l. (is_d, (omega linear, l))) nearest) in
    span_between z u t (Some c) (Some d) (Some from) (Some until) valid limits fits (from_rule z a u t rule valid all at)
    (nearer_first z (λ v. v ≤ℤ u) false c valid last) (farther_first z (λ v. u <ℤ v) true (Some d) valid (λ v is_v inside.
    let rise = segments_rise z u (v.at -ℤ pos 1) valid.transitions.rising valid.leaps (omega linear) in omega linear) first) (sym same) ends
span_of_rule z a u begin from until t previous valid limits fits rule h at one after two = cc

-- ---- the last span, and the local times that only one of its seconds shows
-- the offsets of a zone, the last second that has a type, and its span
module _ (z : Zone) (last : LastSpan) (e : Extremes) (extremes : AreExtremes (offsets z.types z.rule) e) (low : SFits w32 e.least) (high : SFits w32 e.greatest)
    (fits : SFits w64 last.after) (last_fits : SFits w64 last.last) (typed : IsLastTyped z last.last) (h : IsSpanAt (TypeAt z) last.last last.span)
    (after : (u : ℤ) → SFits w64 u → last.after <ℤ u → IsSince last.span.from u) where
  each : (u : ℤ) → SFits w64 u → last.after <ℤ u → u ≤ℤ last.last → IsSpanAt (TypeAt z) u last.span
  each u is l most =
      let inside : IsInSpan last.span u = grind linear in
      grind linear

  -- a second that shows a later local time by a type of the zone comes after that one
  shows_after : (local u v : ℤ) (t : LocalType) → IsWide local → (last.after +ℤ e.greatest) <ℤ local → TypeAt z v t → u +ℤ t.offset ≡ local
      → SFits w64 u × (last.after <ℤ u) × (u ≤ℤ last.last)
  shows_after _ _ v t wide later type shown =
      let most = at_most_greatest z v _ t extremes.greatest type in
      let fewest = at_least_least z v _ t extremes.least type in
      omega linear

  shown_once : (local : ℤ) → IsWide local → (last.after +ℤ e.greatest) <ℤ local → IsShownOnce (Shows (TypeAt z) local) last.span.local_time_type
  shown_once local wide later =
      let u = local -ℤ last.span.local_time_type.offset in
      let b = shows_after _ u _ _ wide later h.in_force_then (omega linear) in
      record {
        second = u;
        shown = record { fits = b.0; type = (each u b.0 b.1 b.2).in_force_then; shown = omega linear };
        only = λ v t k.
            let c = shows_after _ v v t wide later k.type k.shown in
            let same = type_once z v t _ k.type (each v c.0 c.1 c.2).in_force_then in grind linear;
      }

  none : (u : ℤ) → SFits w64 u → last.after <ℤ u → HasNoChange (TypeAt z) (λ v. u <ℤ v)
  none u is l d change later = by_lt_z _ d.at (λ beyond. grind linear) (λ within.
      let this = each (d.at -ℤ pos 1) change.fits_before (omega linear) (omega linear) in
      let that = each d.at change.fits (omega linear) within in
      grind (linear, no_change_within))

  -- the span of the last second that has a type is the last one
  pub last_spans : last.local_after ≡ saturate_signed w64 (last.after +ℤ e.greatest) → IsLast (TypeAt z) (λ v. v ≤ℤ last.last) last.begin → IsLastSpan z last
  last_spans local_after begin = record {
    each = each;
    none = none;
    begins = λ u is l. nearest_moved false _ (TypeAt z) _ (λ v. v ≤ℤ u) _ (grind linear) (grind (linear, none u is l)) begin;
    shown = λ local wide later.
        let near = (saturated (last.after +ℤ e.greatest) (local -ℤ pos 1) (omega linear)).0 (omega linear) in grind (linear, shown_once);
  }
