-- A rule has one type at a second, or is refused there, and never both.
use Rattle.tz_info.proofs.{
  Neighbours.{dst_by_three, ends_near, starts_near},
  Words.{Agrees, Alternate as AlternateRule, AlternateAt, Bool, IsAlternateRefused, IsDstAt, IsRule, IsRuleRefused, IsRuleTime, IsRuleYear, IsTrue, IsUnixTime},
  Words.{IsYearOf, LeapSecond, LiesIn, List, LocalType, MatchOption, RuleAt, Some, Transition, TransitionRule, arith, end_in, floor_div, floors, lies_in},
  Words.{linear, neg_ℤ, one_year, pos, refl, rule_type, slice_get, start_in, starts_rise, type_when, year_of, year_start, ℤ, ◌+ℤ◌, ◌↔◌, ◌≡◌, ◌⊎◌},
}
use Rattle.tz_info.specs.declared.rule.transition_rule.TransitionRule.TheVariants.{Alternate, Fixed}

-- a rule has one type at a second
pub alternate_once : (a : AlternateRule) (u : ℤ) (s t : LocalType) → AlternateAt a u s → AlternateAt a u t → s ≡ t
alternate_once a u s t h k =
    let same = one_year (floor_div u 86_400) h.year k.year h.of_second k.of_second in grind arith

pub rule_once : (rule : TransitionRule) (u : ℤ) (s t : LocalType) → RuleAt rule u s → RuleAt rule u t → s ≡ t
rule_once rule u s t h k = grind (linear, alternate_once)

pub rule_not_refused : (rule : TransitionRule) (u : ℤ) (t : LocalType) → RuleAt rule u t → IsRuleRefused rule u → ⊥
rule_not_refused rule u t h refused = grind linear

refused_at : (u year : ℤ) → IsYearOf u year → (IsRuleYear year → ⊥) → IsAlternateRefused u
refused_at u year of_second out other h inside = out (rw (one_year (floor_div u 86_400) other year h of_second) at inside)

pub rule_told : (rule : TransitionRule) (u : ℤ) → IsRule rule → MatchOption (rule_type rule u) (IsRuleRefused rule u) (RuleAt rule u)
rule_told (Fixed _) _ _ = refl
rule_told (Alternate a) u limits =
    let of_second = lies_in (floor_div u 86_400) in
    let out = refused_at u _ of_second in
    grind (arith, dst_by_three, starts_near, ends_near)

pub rule_decided : (rule : TransitionRule) (u : ℤ) → IsRule rule → ((t : LocalType) × RuleAt rule u t) ⊎ IsRuleRefused rule u
rule_decided rule u h = let t = rule_told rule u h in grind linear

bounds : (year_start (neg_ℤ (pos 2_147_483_646)) ≡ neg_ℤ (pos 784_353_015_102)) × (year_start (pos 2_147_483_646) ≡ pos 784_351_576_047)
unfolding year_start
bounds = (refl, refl)

-- the seconds of the years that a rule answers in
pub rule_time : (u year : ℤ) → IsYearOf u year → IsRuleYear year → IsRuleTime u
rule_time u year of_second inside =
    grind (arith, floors, bounds, starts_rise (neg_ℤ (pos 2_147_483_646)) year, starts_rise (year +ℤ pos 1) (pos 2_147_483_646))

pub rule_year : (u year : ℤ) → IsYearOf u year → IsRuleTime u → IsRuleYear year
rule_year u year of_second within =
    grind (arith, floors, bounds, starts_rise (year +ℤ pos 1) (neg_ℤ (pos 2_147_483_646)), starts_rise (pos 2_147_483_646) year)

-- the year of the second's day is the second's year, and a rule answers in it
pub year_found : (u day year : ℤ) → day ≡ floor_div u 86_400 → year ≡ year_of day → IsRuleTime u → LiesIn day year × IsRuleYear year
year_found u day year at_day at_year within = let lies = lies_in day in grind (linear, rule_year)

-- the type at a second whose day and year are known
pub alternate_at : (a : AlternateRule) (u day year : ℤ) (dst : Bool) → day ≡ floor_div u 86_400 → LiesIn day year → IsRuleYear year
    → IsDstAt (start_in a) (end_in a) year u dst → AlternateAt a u (type_when a dst)
alternate_at a u day year dst at_day lies inside when = grind arith

-- ---- whether a rule agrees with the last transition
-- a rule, and what it must agree with
module _ (types : List LocalType) (leaps : List LeapSecond) (rule : TransitionRule) (last : Transition) (u : ℤ)
    (of_last : IsUnixTime leaps last.unix_leap_time u) where
  -- whether the rule agrees is whether its type there and the listed one are the same
  pub agrees_if_same : (s t : LocalType) (same : Bool) → RuleAt rule u s → slice_get types last.type_index ≡ Some t → IsTrue same ↔ (s ≡ t)
      → IsTrue same ↔ Agrees types leaps rule last
  agrees_if_same s t same of_rule listed e = grind (linear, rule_once)

-- at each second a rule has one type, or none
pub ruleset rule_types = (rule_decided, rule_not_refused, rule_once, rule_time, rule_year)
