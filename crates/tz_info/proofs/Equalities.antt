-- Values are equal by `==` if and only if they are equal.
use Rattle.std.proofs.Common.{arith}
use Rattle.std.specs.Cmp.Lexicographic.{pointwise}
use Rattle.tz_base.proofs.ChangeEquality.{second_exact}
use Rattle.tz_base.specs.contracts.local_time_type.LocalTimeTypePartialEq.TheImpl.{eq-value as type_eq}
use Rattle.tz_info.proofs.{
  Words.{Alternate as AlternateRule, Bool, IsExact, IsTrue, TransitionRule, Zone, option_eq, refl, rules, slice_eq-Decides, type_exact, zone_eq},
  Words.{◌&&◌, ◌↔◌, ◌≡◌},
}
use Rattle.tz_info.specs.{
  contracts.change.TypedSecondPartialEq.TheImpl.{eq-value as second_eq},
  contracts.rule.{day.DayTimePartialEq.TheImpl.{eq-value as day_time_eq}, transition_rule.TransitionRulePartialEq.TheImpl.{eq-value as rule_eq}},
  contracts.zone.ask.differences.DifferencePartialEq.TheImpl.{eq-value as difference_eq},
  contracts.zone.ask.shown_seconds.ShownSecondsPartialEq.TheImpl.{eq-value as seconds_eq},
}
use Rattle.tz_base.specs.contracts.leap_second.LeapSecondPartialEq.TheImpl.{eq-value as leap_eq}
use Rattle.tz_base.specs.contracts.transition.TransitionPartialEq.TheImpl.{eq-value as transition_eq}

list_exact : {X : Type 0} (E : X → X → Bool) → IsExact E → IsExact (pointwise E)
list_exact E exact xs ys = slice_eq-Decides exact xs ys (pointwise E xs ys) refl

option_exact : {X : Type 0} (E : X → X → Bool) → IsExact E → IsExact (option_eq E)
option_exact E exact a b = grind (arith, exact)

-- ---- rules
day_time_exact : IsExact day_time_eq.it
day_time_exact a b = search rules

pub alternate_exact : (a b : AlternateRule)
    → IsTrue (type_eq.it a.std b.std && (type_eq.it a.dst b.dst && (day_time_eq.it a.start b.start && day_time_eq.it a.end b.end))) ↔ (a ≡ b)
alternate_exact = grind (arith, type_exact, day_time_exact)

pub rule_exact : (a b : TransitionRule) → IsTrue (rule_eq.it a b) ↔ (a ≡ b)
rule_exact a b = grind (arith, type_exact, alternate_exact)

-- ---- zones
pub zone_exact : (a b : Zone) → IsTrue (zone_eq transition_eq.it type_eq.it leap_eq.it rule_eq.it a b) ↔ (a ≡ b)
zone_exact a b =
    let transitions = list_exact transition_eq.it (λ x y. search rules) a.transitions b.transitions in
    let leaps = list_exact leap_eq.it (λ x y. search rules) a.leaps b.leaps in
    let rules = option_exact _ rule_exact a.rule b.rule in
    grind (arith, list_exact, type_exact)

-- ---- seconds with types, and differences
pub typed_second_exact : IsExact second_eq.it
typed_second_exact a b = grind (arith, second_exact, type_exact)

pub shown_seconds_exact : IsExact seconds_eq.it
shown_seconds_exact a b =
    let first = typed_second_exact a.first b.first in
    let last = typed_second_exact a.last b.last in grind arith

pub difference_exact : IsExact difference_eq.it
difference_exact a b =
    let old = type_exact a.old b.old in
    let new = type_exact a.new b.new in grind (arith, second_exact)
