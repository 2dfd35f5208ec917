-- Where rules answer, and how often they are asked.
use Rattle.tz_info.proofs.{Words.{AllPairs, ◌≢◌}, QuestionLaws.{in_two}}
use Rattle.tests_pins.proofs.Words.{Contains, IsAskedAt, IsAskedFor, IsByRule, IsByRuleFor, [], arith, honolulu, hst, hst10, inl, inr, ints, neg_ℤ}
use Rattle.tests_pins.proofs.Words.{new_york_rule, new_york_zone, pos, refl, ℕ, ℤ, ◌-ℤ◌, ◌∷◌, ◌≡◌, ◌⊎◌}
use Rattle.tz_info.specs.declared.rule.transition_rule.TransitionRule.TheVariants as rules

pub always : (u : ℤ) → IsByRule new_york_zone u
always u = record { rule = new_york_rule; of_zone = refl; leap_time = u; of_second = λ h. absurd (omega (arith, h)); from_last = refl }

pub from_last : IsByRule (honolulu hst10) (neg_ℤ (pos 712_150_200))
from_last = record {
  rule = rules.Fixed hst;
  of_zone = refl;
  leap_time = neg_ℤ (pos 712_150_200);
  of_second = λ _. record { sum = refl; fits = λ k h. absurd (omega (arith, h)) };
  from_last = refl;
}

pub not_before_last : IsByRule (honolulu hst10) (neg_ℤ (pos 712_150_201)) → ⊥
not_before_last h = grind (arith, ints)

pub one_more : (after : ℕ) → IsAskedAt new_york_zone (pos 0) 5 after → after ≡ 6
one_more after h = grind (arith, always)

-- clocks five and four hours behind UTC show the local time at two seconds
by_clock : (h : ℤ) → Contains (neg_ℤ (pos 18_000) ∷ neg_ℤ (pos 14_400) ∷ []) h
    → (pos 1_615_689_000 -ℤ h ≡ pos 1_615_707_000) ⊎ (pos 1_615_689_000 -ℤ h ≡ pos 1_615_703_400)
by_clock h of_rule = elim (in_two (neg_ℤ (pos 18_000)) (neg_ℤ (pos 14_400)) h of_rule) [ inl is ↦ inl (rw is refl) | inr is ↦ inr (rw is refl) ]

asked : (u : ℤ) → (u ≡ pos 1_615_707_000) ⊎ (u ≡ pos 1_615_703_400) → IsByRuleFor new_york_zone (pos 1_615_689_000) u
asked u (inl at) = record { offset = neg_ℤ (pos 18_000); of_rule = (0, omega arith, refl); of_second = at; by_rule = always u }
asked u (inr at) = record { offset = neg_ℤ (pos 14_400); of_rule = (1, omega arith, refl); of_second = at; by_rule = always u }

apart : (a b : ℤ) → a ≢ b → AllPairs (λ u v. u ≢ v) (a ∷ b ∷ [])
apart a b other k m d i j = grind arith

pub two_more : IsAskedFor new_york_zone (pos 1_615_689_000) 5 7
two_more = record {
  seconds = pos 1_615_707_000 ∷ pos 1_615_703_400 ∷ [];
  once = apart (pos 1_615_707_000) (pos 1_615_703_400) (λ e. omega (arith, ints, e));
  each = grind (arith, ints, asked, in_two, by_clock);
  count = refl;
}

pub ruleset asked_rules = (always, from_last, not_before_last, one_more, two_more)
