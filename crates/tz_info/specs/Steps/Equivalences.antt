-- The equality of rules and that of zones are equivalences.
use Rattle.std.{specs.{Prelude.{Bool}, Cmp.{IsEquivalence, Lexicographic.{options_equiv}}}, proofs.lemmas.Cmp.{on_equiv, and_equiv, lists_equiv}}
use Rattle.tz_base.specs.LocalTypes.{LocalType}
use Rattle.tz_info.specs.{ZoneEquality.{alternate_eq, zone_eq}, declared.rule.{day.DayTime.{DayTime}, transition_rule.TransitionRule.{TransitionRule}}}
use Rattle.tz_base.specs.declared.{leap_second.LeapSecond.{LeapSecond}, transition.Transition.{Transition}}

pub alternate_eq_equiv : {T : LocalType → LocalType → Bool} {D : DayTime → DayTime → Bool} → IsEquivalence T → IsEquivalence D
    → IsEquivalence (alternate_eq T D)
alternate_eq_equiv t d =
    and_equiv (on_equiv (λ a. a.std) t) (and_equiv (on_equiv (λ a. a.dst) t) (and_equiv (on_equiv (λ a. a.start) d) (on_equiv (λ a. a.end) d)))

pub zone_eq_equiv : {T : Transition → Transition → Bool} {L : LocalType → LocalType → Bool} {S : LeapSecond → LeapSecond → Bool}
    {R : TransitionRule → TransitionRule → Bool} → IsEquivalence T → IsEquivalence L → IsEquivalence S → IsEquivalence R → IsEquivalence (zone_eq T L S R)
zone_eq_equiv t l s r =
    and_equiv (on_equiv (λ z. z.transitions) (lists_equiv t))
    (and_equiv (on_equiv (λ z. z.types) (lists_equiv l))
    (and_equiv (on_equiv (λ z. z.leaps) (lists_equiv s)) (on_equiv (λ z. z.rule) (options_equiv r))))
