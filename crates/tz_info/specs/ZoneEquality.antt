-- When two rules are equal: their types, and the days and times of their changes are. When two zones are: their lists and rules are.
use Rattle.std.specs.{Prelude.{Bool}, Cmp.Lexicographic.{pointwise}, Option.{option_eq}, Ordering.{on, eq_of_both}}
use Rattle.tz_base.specs.LocalTypes.{LocalType}
use Rattle.tz_info.specs.{Zones.{Zone}, declared.rule.transition_rule.TransitionRule.{TransitionRule}}
use Rattle.tz_base.specs.declared.{leap_second.LeapSecond.{LeapSecond}, transition.Transition.{Transition}}
use Rattle.tz_info.specs.{Rules.{Alternate}, declared.rule.day.DayTime.{DayTime}}

-- whether two alternate rules are equal, given tests of types and of days with their times
abbrev pub alternate_eq : (LocalType → LocalType → Bool) → (DayTime → DayTime → Bool) → Alternate → Alternate → Bool
alternate_eq types days =
    eq_of_both (on (λ a. a.std) types)
    (eq_of_both (on (λ a. a.dst) types) (eq_of_both (on (λ a. a.start) days) (on (λ a. a.end) days)))

-- whether two zones are equal, given tests of the items of their lists
abbrev pub zone_eq : (Transition → Transition → Bool) → (LocalType → LocalType → Bool) → (LeapSecond → LeapSecond → Bool)
    → (TransitionRule → TransitionRule → Bool) → Zone → Zone → Bool
zone_eq transitions types leaps rules =
    eq_of_both (on (λ z. z.transitions) (pointwise transitions))
    (eq_of_both (on (λ z. z.types) (pointwise types))
    (eq_of_both (on (λ z. z.leaps) (pointwise leaps)) (on (λ z. z.rule) (option_eq rules))))
