-- Gaps: the first second at which clocks show more than a local time that they never show.
use Rattle.tz_info.proofs.{
  ExtremeLaws.{at_least_least, at_most_greatest},
  LeapOrder.leap_times_answer,
  RuleLaws.rule_year,
  SegmentLaws.{type_before, type_from},
  Words.{AreLess, HasGap, IsFirstAtOrAfter, IsNear, IsNeverShown, IsRuleOrNone, IsTypeRefused, IsValid, IsWindowOf, LocalType, None, Option, Shows, Some},
  Words.{TransitionRule, TypeAt, Zone, by_leap_time, by_rule, floor_div, inl, inr, length, lies_in, linear, pos, segment_of, ℕ, ℤ, ◌+ℤ◌, ◌-ℤ◌, ◌<ℤ◌, ◌<◌, ◌∙◌},
  Words.{◌≡◌, ◌≤ℤ◌, ◌⊎◌},
  ZoneLaws.{some_once, type_decided},
}
use Rattle.tz_info.specs.declared.rule.transition_rule.TransitionRule.TheVariants.{Alternate, Fixed}

abbrev pub IsNever : Zone → ℤ → Type 0
IsNever z l = IsNeverShown (Shows (TypeAt z) l)

-- ---- each near second has a type
pub near_not_refused : (z : Zone) (u : ℤ) → IsValid z → IsNear u → IsTypeRefused z u → ⊥
near_not_refused z u valid near (by_leap_time some refused) = leap_times_answer _ u valid.leaps near.0 near.1 refused
near_not_refused z u valid near (by_rule x _ _ refused) = grind (linear, lies_in (floor_div u 86_400), rule_year u)

pub near_type : (z : Zone) (u : ℤ) → IsValid z → IsRuleOrNone z.rule → IsNear u → (t : LocalType) × TypeAt z u t
near_type z u valid limits near = elim (type_decided z u valid limits) [ inl t ↦ t | inr r ↦ absurd (near_not_refused z u valid near r) ]

-- ---- in a segment that is not an alternate rule's one type is in force
-- the rule has one type, or the zone has no rule
abbrev pub IsSteady : Option TransitionRule → Type 0
IsSteady None = Unit {0}
IsSteady (Some (Fixed t)) = Unit {0}
IsSteady (Some (Alternate a)) = ⊥

-- the segment lies before the last transition, or the rule has no second type
abbrev pub HasOneType : Zone → ℕ → Type 0
HasOneType z i = (i < length z.transitions) ⊎ (IsSteady z.rule × (i ≡ length z.transitions))

pub one_type : (z : Zone) (i : ℕ) (u v : ℤ) (s t : LocalType) → IsValid z → HasOneType z i → segment_of z u ≡ i → segment_of z v ≡ i → TypeAt z u s
    → TypeAt z v t → s ≡ t
one_type z i u v s t valid (inl h) a b k m = some_once _ s t
    (type_before z u s valid.transitions.rising i (record { type = k; segment = a }) h)
    (type_before z v t valid.transitions.rising i (record { type = m; segment = b }) h)
one_type z i u v s t valid (inr (steady, e)) a b k m =
    let x = type_from z u s valid.transitions.rising (record { type = k; segment = a ∙ e }) in
    let y = type_from z v t valid.transitions.rising (record { type = m; segment = b ∙ e }) in grind linear

-- ---- seconds at which clocks show less
-- at `high` clocks show the local time or a later one
pub not_less : (z : Zone) (l low high s : ℤ) → IsValid z → IsRuleOrNone z.rule → IsWindowOf z l l low high → AreLess z l s → high ≤ℤ s → ⊥
not_less z l low high s valid limits reach all h =
    let (t, type) = near_type z _ valid limits reach.near_high in grind (linear, all high reach.near_high h t type, at_least_least z _ _ t reach.least type)

-- ---- the first second that shows more
-- if all near seconds before c show less, it is the first that shows more
pub gap_found : (z : Zone) (l low high c : ℤ) (s t : LocalType) → IsNever z l → IsWindowOf z l l low high → IsNear c → AreLess z l (c -ℤ pos 1)
    → TypeAt z c s → l <ℤ (c +ℤ s.offset) → TypeAt z (c -ℤ pos 1) t → HasGap (TypeAt z) l t s c
gap_found z l low _ c s t never reach far all here more before = record {
  never = never;
  here = here;
  more = more;
  least = λ u m. let g = at_most_greatest z u _ _ reach.greatest m.here in let near : u <ℤ c → IsNear u = λ h. (omega linear, omega linear) in grind linear;
  earlier = before;
}

-- ---- by the first second that shows the local time or a later one
-- which is near
pub first_near : (z : Zone) (l low high u : ℤ) (t : LocalType) → IsValid z → IsRuleOrNone z.rule → IsWindowOf z l l low high → IsFirstAtOrAfter (TypeAt z) l u t
    → (low ≤ℤ u) × (u ≤ℤ high)
first_near z l low high u t valid limits reach first =
    let (s, type) = near_type z _ valid limits reach.near_high in
    grind (linear, first.first high s, at_least_least z _ _ s reach.least type, at_most_greatest z u _ t reach.greatest first.shown.type, first.shown.reached)

pub gap_at_first : (z : Zone) (l low high u : ℤ) (t before : LocalType) → IsNever z l → IsWindowOf z l l low high → low ≤ℤ u → u ≤ℤ high
    → IsFirstAtOrAfter (TypeAt z) l u t → TypeAt z (u -ℤ pos 1) before → HasGap (TypeAt z) l before t u
gap_at_first z l low _ u t _ never reach since most first earlier =
    gap_found z l low _ u t _ never reach (omega linear, omega linear) (grind (linear, first.first)) first.shown.type (grind (linear, never u t)) earlier
