-- The seconds at which a zone has a type.
use Rattle.std.{proofs.lemmas.Int.clamps, specs.Int.{int_max, int_min}}
use Rattle.tz_info.proofs.{
  EntryChanges.near_time,
  LeapOrder.leap_times_answer,
  RuleChanges.rule_second,
  SegmentLaws.{segment_most, segments_rise},
  SpanLaws.{all_come, out_of_years},
  Words.{Alternate as AlternateRule, AreLeapSeconds, IsBegin, IsFirstTyped, IsFromLast, IsLastTimed, IsLastTyped, IsLeapTime, IsLeapTimeRefused, IsRefusedBy},
  Words.{IsRuleOrNone, IsTypeRefused, IsTyped, IsValid, LeapSecond, List, Option, SFits, Some, TransitionRule, Zone, arith, by_leap_time, by_lt_z, by_rule},
  Words.{inl, inr, ints, least_time, length, linear, neg_ℤ, pos, refl, segment_of, w64, ℤ, ◌-ℤ◌, ◌<ℤ◌, ◌<◌, ◌≡◌, ◌≤ℤ◌},
  ZoneChanges.{refused_on, time_of, to_rule},
  ZoneLaws.type_decided,
}
use Rattle.tz_info.specs.{Steps.Starts.IsLastWithLeapTime, declared.rule.transition_rule.TransitionRule.TheVariants.{Alternate}}

-- before 1970 each second has a leap time
early_time : (es : List LeapSecond) (u : ℤ) → AreLeapSeconds es → u <ℤ pos 0 → IsLeapTimeRefused es u → ⊥
early_time es u valid before refused =
    refused_on es u _ _ valid (omega linear) refused (near_time es (pos 0) valid (omega arith, omega arith))

-- near seconds have a leap time, so that the last second that has one is far from now
pub timed : (z : Zone) (last : ℤ) → 0 < length z.transitions → AreLeapSeconds z.leaps → SFits w64 last → IsLastWithLeapTime z.leaps last → IsLastTimed z last
timed z last some valid fits h = record {
  fits = fits;
  has = λ v in_64 most _. (_, h.has v (omega (arith, ints)) most);
  none = λ v in_64 later. (some, h.refused v later (omega (arith, ints)));
  far = by_lt_z last (pos 10_000_000_000_000) (λ less. absurd (leap_times_answer z.leaps (pos 10_000_000_000_000) valid (omega arith) (omega arith)
      (h.refused _ less (omega arith)))) (λ from. from);
}

-- a valid zone whose rule is in limits
module _ (z : Zone) (valid : IsValid z) (limits : IsRuleOrNone z.rule) where
  -- if the first second of 64 bits has no type, the first one that has is that of the rule's years
  first_by : (rule : Option TransitionRule) (x : ℤ) → z.rule ≡ rule → (0 < length z.transitions → IsLeapTime z.leaps least_time x) → IsFromLast z x
      → IsRefusedBy rule least_time → IsFirstTyped z (neg_ℤ (pos 67_768_100_504_812_800))
  first_by (Some (Alternate a)) x is l last refused = record {
    fits = omega arith;
    typed = elim (type_decided z (neg_ℤ (pos 67_768_100_504_812_800)) valid limits) [ inl typed ↦ typed | inr refused ↦ absurd (in_years refused) ];
    before = λ typed.
        let u = neg_ℤ (pos 67_768_100_504_812_800) -ℤ pos 1 in
        let all = all_come z _ x valid l last in
        let rise = segments_rise z least_time u valid.transitions.rising valid.leaps (omega arith) in
        let most = segment_most z u valid.transitions.rising in
        let within = rule_second a u _ (to_rule z a u typed.0 is valid (omega arith) typed.1) in
        omega arith;
  } where
    in_years : IsTypeRefused z (neg_ℤ (pos 67_768_100_504_812_800)) → ⊥
    in_years (by_leap_time some r) = early_time z.leaps _ valid.leaps (omega arith) r
    in_years (by_rule y m n r) =
        elim (out_of_years (neg_ℤ (pos 67_768_100_504_812_800)) (rw is at r)) [ inl early ↦ omega arith | inr late ↦ omega arith ]
  first_by _ _ _ _ _ refused = absurd refused

  pub first_typed : IsTypeRefused z least_time → IsFirstTyped z (neg_ℤ (pos 67_768_100_504_812_800))
  first_typed (by_leap_time some refused) = absurd (early_time _ _ valid.leaps (omega arith) refused)
  first_typed (by_rule x l last refused) = first_by _ x refl l last refused

  -- ---- the last one
  module _ (l : ℤ) (timed : IsLastTimed z l) where
    -- a second up to the last one with a leap time has a type, unless the rule refuses it
    typed_by : (u : ℤ) → SFits w64 u → u ≤ℤ l → ((x : ℤ) → (0 < length z.transitions → IsLeapTime z.leaps u x) → IsFromLast z x → IsRefusedBy z.rule u → ⊥)
        → IsTyped z u
    typed_by u fits most not = let d = type_decided z u valid limits in let has = timed.has u fits most in grind (linear, refused_on)

    beyond : (v : ℤ) → SFits w64 v → l <ℤ v → IsTyped z v → ⊥
    beyond v fits later there = grind (linear, refused_on, time_of)

    pub last_without_turns : ((a : AlternateRule) → z.rule ≡ Some (Alternate a) → ⊥) → IsLastTyped z l
    last_without_turns not = record {
      typed = typed_by l timed.fits (omega linear) (λ _ _ _ refused. grind linear);
      none = beyond;
      far = timed.far;
    }

    -- a rule of two types answers from its begin on, up to the end of its years
    pub last_with_turns : (a : AlternateRule) (begin r : ℤ) → z.rule ≡ Some (Alternate a) → IsBegin z begin
        → r ≡ int_min l (int_max begin (pos 67_767_976_170_460_800) -ℤ pos 1) → IsLastTyped z r
    last_with_turns a begin r rule is e =
        let far = timed.far in
        let fits = timed.fits in
        let least : (pos 10_000_000_000_000 ≤ℤ r) × (r ≤ℤ l) = omega (linear, clamps) in record {
          typed = typed_by r (omega linear) least.1 (λ x of_second last refused.
              let out = out_of_years r (rw rule at refused) in
              let b = is.comes r x in let alone = is.alone in grind (linear, clamps));
          none = λ v fits later there. by_lt_z l v (λ after. beyond v fits after there) (λ most.
              let m = segment_most z v valid.transitions.rising in
              let time = λ (some : 0 < length z.transitions). time_of z v _ some there.1 in
              let come = is.comes v there.1.leap_time fits in let reached = all_come z v there.1.leap_time valid in
              let all : segment_of z v ≡ length z.transitions = grind (linear, clamps) in
              let within = rule_second a v _ (to_rule z a v _ rule valid all there.1) in
              omega (linear, clamps));
          far = least.0;
        }
