-- When a zone's types change: at its transitions, and after them when the rule's types do.
use Rattle.std.proofs.lemmas.List.Sums.{sum_by-le-sum_by}
use Rattle.tz_info.proofs.{
  ChangeSearch.nearest_moved,
  GapLaws.{HasOneType, one_type},
  LeapOrder.passed_bounded,
  RuleChanges.rule_second,
  SegmentLaws.{come_at_time, later_segment, segment_at, segment_most, segments_rise, type_from, type_in_from},
  Words.{Alternate as AlternateRule, AlternateAt, AreLeapSeconds, Bool, Change, HasNoChange, IsAhead, IsBegin, IsChange, IsChangeByRule, IsInTable, IsLeapTime},
  Words.{IsLeapTimeRefused, IsNearest, IsNearestChange, IsOutOfForce, IsRuleTime, IsValid, LeapSecond, List, LocalType, None, Option, SFits, Some, TypeAt},
  Words.{Zone, arith, cases_lt, false, inl, inr, length, linear, not, passed_count, pos, refl, segment_of, sym, thresholds, true, w64, ℤ, ◌-ℤ◌, ◌<ℤ◌, ◌<◌, ◌↔◌},
  Words.{◌∙◌, ◌≡◌, ◌≤ℤ◌, ◌≤◌},
  ZoneLaws.{leap_time_decided, type_once},
}
use Rattle.tz_info.specs.declared.rule.transition_rule.TransitionRule.TheVariants.{Alternate}

-- ---- which seconds have a leap time
-- before a second with a leap time each has one
pub refused_on : (es : List LeapSecond) (u v y : ℤ) → AreLeapSeconds es → u ≤ℤ v → IsLeapTimeRefused es u → IsLeapTime es v y → ⊥
refused_on es u v y valid h r l =
    let b = passed_bounded es u _ valid r.passed in
    let more : passed_count es u ≤ passed_count es v =
    sum_by-le-sum_by _ _ (thresholds (pos 0) es) (λ t. grind arith) in grind arith

-- so has each second of the years that a rule answers in
pub rule_leap_time : (es : List LeapSecond) (u : ℤ) → AreLeapSeconds es → IsRuleTime u → (x : ℤ) × IsLeapTime es u x
rule_leap_time es u valid within = elim (leap_time_decided es u) [
  | inl x ↦ x
  | inr r ↦ let b = passed_bounded es u _ valid r.passed in grind arith
]

-- ---- segments
pub time_of : (z : Zone) (u : ℤ) (t : LocalType) → 0 < length z.transitions → (h : TypeAt z u t) → IsLeapTime z.leaps u h.leap_time
time_of z u t some h = grind linear

-- a change comes from one segment to a later one, if one type is in force in the segment
changes_segment : (z : Zone) (d : Change) → IsValid z → IsChange (TypeAt z) d → HasOneType z (segment_of z (d.at -ℤ pos 1))
    → segment_of z (d.at -ℤ pos 1) < segment_of z d.at
changes_segment z d valid is one = elim (cases_lt _ _) [
  | inl l ↦ l
  | inr m ↦
      let r = segments_rise z (d.at -ℤ pos 1) d.at valid.transitions.rising valid.leaps (omega linear) in
      absurd (is.differ (one_type z _ _ _ _ _ valid one refl (omega arith) is.before is.after))
]

-- ---- after the last transition
pub last_too : (z : Zone) (u : ℤ) → IsValid z → segment_of z (u -ℤ pos 1) ≡ length z.transitions → segment_of z u ≡ length z.transitions
last_too z u valid e = grind (arith, segments_rise, segment_most)

-- without a rule of two types nothing changes there
pub steady : (z : Zone) (within : ℤ → Type 0) → IsValid z → ((a : AlternateRule) → z.rule ≡ Some (Alternate a) → ⊥)
    → HasNoChange (TypeAt z) (IsChangeByRule z within)
steady z _ valid not d is inside = grind (arith, changes_segment, segment_most)

-- a second at which the zone's rule answers
module _ (z : Zone) (a : AlternateRule) (u : ℤ) (t : LocalType) (rule : z.rule ≡ Some (Alternate a)) where
  pub to_rule : IsValid z → segment_of z u ≡ length z.transitions → TypeAt z u t → AlternateAt a u t
  to_rule valid e k = rw rule at (type_from z u t valid.transitions.rising (grind linear))

  pub from_rule : IsValid z → segment_of z u ≡ length z.transitions → AlternateAt a u t → TypeAt z u t
  from_rule valid e k =
      let x = rule_leap_time _ u valid.leaps (rule_second a u t k) in
      let b = segment_at z u _ valid.transitions.rising e in
      (type_in_from z u x.0 t x.1 (grind linear) (rw rule k)).type

-- `begin` comes no later than a second with a type if and only if all have come then
pub begun : (z : Zone) (begin u : ℤ) (t : LocalType) → IsValid z → IsBegin z begin → SFits w64 u → TypeAt z u t
    → (begin ≤ℤ u) ↔ (segment_of z u ≡ length z.transitions)
begun z _ u t valid h fits k = grind (linear, time_of, come_at_time, segment_most)

pub begins : (z : Zone) (begin u : ℤ) → IsValid z → IsBegin z begin → IsRuleTime u → begin ≤ℤ u → segment_of z u ≡ length z.transitions
begins z _ u valid h within from =
    let (x, l) = rule_leap_time _ u valid.leaps within in sym (come_at_time z u x l) ∙ (h.comes u x (omega linear) l).1 from

-- the changes of the zone there are those of the rule after `begin`
by_rule : (z : Zone) (a : AlternateRule) (begin : ℤ) (d : Change) → IsValid z → z.rule ≡ Some (Alternate a) → IsBegin z begin
    → (IsChange (TypeAt z) d × (segment_of z (d.at -ℤ pos 1) ≡ length z.transitions)) ↔ (IsChange (AlternateAt a) d × (begin <ℤ d.at))
by_rule z a begin d valid rule h = (
  λ k.
      let is = k.0 in let b = (begun z _ _ _ valid h is.fits_before is.before).1 k.1 in grind (arith, to_rule, last_too),
  λ k.
      let is = k.0 in let e = begins z _ (d.at -ℤ pos 1) valid h (rule_second a (d.at -ℤ pos 1) _ is.before) (omega linear) in
      let before = from_rule z a _ _ rule valid e is.before in
      let after = from_rule z a _ _ rule valid (last_too z _ valid e) is.after in grind arith,
)

pub rule_found : (z : Zone) (a : AlternateRule) (w : Bool) (s begin : ℤ) (found : Option Change) → IsValid z → z.rule ≡ Some (Alternate a) → IsBegin z begin
    → IsNearest w (AlternateAt a) (λ u. (begin <ℤ u) × IsAhead w s u) found → IsNearest w (TypeAt z) (IsChangeByRule z (IsAhead w s)) found
rule_found z a w s begin _ valid rule h =
    nearest_moved w _ _ _ _ _
    (λ d is inside. let k = (by_rule z a _ d valid rule h).0 in let i = inside.inside in grind arith)
    (λ d is inside. let k = (by_rule z a _ d valid rule h).1 in grind arith)

-- if none of those seconds comes after `begin`, no change comes at one after the last transition
pub none_begun : (z : Zone) (within : ℤ → Type 0) (begin : ℤ) → IsValid z → IsBegin z begin → ((u : ℤ) → SFits w64 u → within u → u ≤ℤ begin)
    → HasNoChange (TypeAt z) (IsChangeByRule z within)
none_begun z _ _ valid h most d is inside =
    let b = (begun z _ _ _ valid h is.fits_before is.before).1 inside.by_rule in grind arith

-- ---- the table's changes come before the rule's
-- of the seconds that `within` takes those at which the changes of the table come, or of the rule: first those that come first in that direction
abbrev IsNearer : Bool → Zone → (ℤ → Type 0) → ℤ → Type 0
IsNearer true z within = IsInTable z within
IsNearer false z within = IsChangeByRule z within

module _ (z : Zone) (within : ℤ → Type 0) where
  table_sooner : (u v : ℤ) → IsValid z → IsInTable z within u → IsChangeByRule z within v → u ≤ℤ v
  table_sooner u v valid t r = let k = later_segment z (u -ℤ pos 1) (v -ℤ pos 1) valid (omega arith) in omega linear

  pub nearer_first : (w : Bool) (c : Change) → IsValid z → IsNearestChange w (TypeAt z) (IsNearer w z within) c → IsNearestChange w (TypeAt z) within c
  nearer_first true c valid h = grind (linear, segment_most, table_sooner)
  nearer_first false c valid h = grind (linear, segment_most, table_sooner)

  pub farther_first : (w : Bool) (found : Option Change) → IsValid z → HasNoChange (TypeAt z) (IsNearer w z within)
      → IsNearest w (TypeAt z) (IsNearer (not w) z within) found → IsNearest w (TypeAt z) within found
  farther_first true None valid none h = grind (linear, segment_most)
  farther_first w found valid none h = grind (linear, segment_most)

-- ---- at the ends of a span
pub out_before : (z : Zone) (c : Change) → IsChange (TypeAt z) c → IsOutOfForce (TypeAt z) c.after (c.at -ℤ pos 1)
out_before z c is = record { fits = is.fits_before; out = λ k. is.differ (type_once z _ _ _ is.before k) }

pub out_from : (z : Zone) (c : Change) → IsChange (TypeAt z) c → IsOutOfForce (TypeAt z) c.before c.at
out_from z c is = record { fits = is.fits; out = λ k. is.differ (type_once z _ _ _ k is.after) }
