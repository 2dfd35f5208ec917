-- The one span of a rule whose two types are one.
use Rattle.std.proofs.lemmas.Int.{fits_signed_from_abs}
use Rattle.tz_info.proofs.{RuleChanges.{rule_second}, SpanLaws.{out_of_years, span_once}, ZoneLaws.{type_decided, zone_of_rule_valid}}
use Rattle.tz_info.proofs.Words.{IsTypeRefused, IsValid, TypeAt, arith, by_leap_time, by_rule, inl, inr, ints, neg_ℤ, pos, refl, subst, w64, ℤ}
use Rattle.tz_info.proofs.Words.{◌≡◌}
use Rattle.tz_info.specs.{Moments.{IsRuleTime}, Spans.{IsInSpan, IsSpanAt}}
use Rattle.tz_base.specs.{LocalTypes.{LocalType}, declared.span.Span.{Span}}
use Rattle.std.specs.Prelude.{Some, [], ◌∷◌}
use Rattle.tz_info.specs.declared.rule.transition_rule.TransitionRule.TheVariants as rules
use Rattle.tests_pins.specs.{NewYork.{est}, Spans.{rule_years, steady, steady_zone}}

in_years : (u : ℤ) (t : LocalType) → TypeAt steady_zone u t → IsRuleTime u
in_years u t h = rule_second steady u t (h.in_force.from_last refl)

is_est : (u : ℤ) (t : LocalType) → TypeAt steady_zone u t → t ≡ est
is_est u t h = let r = h.in_force.from_last refl in grind arith

valid : IsValid steady_zone
valid = zone_of_rule_valid (est ∷ est ∷ []) (Some (rules.Alternate steady)) (omega arith)

typed : (u : ℤ) → IsRuleTime u → TypeAt steady_zone u est
typed u within = elim (type_decided steady_zone u valid (omega arith)) [
  | inl found ↦ subst (TypeAt steady_zone u) (is_est u found.0 found.1) found.1
  | inr refused ↦ absurd (not refused)
] where
  not : IsTypeRefused steady_zone u → ⊥
  not (by_leap_time some r) = omega arith
  not (by_rule x l m r) = let low = within.0 in let high = within.1 in
      elim (out_of_years u r) [ inl early ↦ omega (arith, ints) | inr late ↦ omega (arith, ints) ]

pub years_are : IsSpanAt (TypeAt steady_zone) (pos 0) rule_years
years_are = record {
  in_force_then = typed (pos 0) (omega (arith, ints), omega (arith, ints));
  inside = inside;
  span = record {
    some = (pos 0, inside);
    each = λ u i. let since = i.since in let until = i.until in typed u (since, omega (arith, ints));
    begins = record {
      fits = fits_signed_from_abs w64 (neg_ℤ (pos 67_768_100_504_812_801)) (omega arith);
      out = λ h. let within = in_years (neg_ℤ (pos 67_768_100_504_812_801)) est h in omega (arith, ints, within.0);
    };
    ends = record {
      fits = fits_signed_from_abs w64 (pos 67_767_976_170_460_800) (omega arith);
      out = λ h. let within = in_years (pos 67_767_976_170_460_800) est h in omega (arith, ints, within.1);
    };
  };
} where
  inside : IsInSpan rule_years (pos 0)
  inside = record { fits = fits_signed_from_abs w64 (pos 0) (omega arith); since = omega (arith, ints); until = omega (arith, ints) }

pub only_years : (s : Span) → IsSpanAt (TypeAt steady_zone) (pos 0) s → s ≡ rule_years
only_years s h = span_once steady_zone s rule_years (pos 0) h.span years_are.span h.inside years_are.inside
