-- Zones with transitions.
use Rattle.std.specs.Prelude.{ℕ, ℤ, pos, neg_ℤ, Bool, true, false, List, [], ◌∷◌, Option, Some, None}
use Rattle.tz_base.specs.LocalTypes.{LocalType}
use Rattle.tz_info.specs.{Zones.{Zone}, declared.rule.transition_rule.TransitionRule.{TransitionRule}}
use Rattle.tz_base.specs.declared.transition.Transition.{Transition}
use Rattle.tz_info.specs.PosixZones.{posix_zone}
use Rattle.tests_pins.specs.{LeapSeconds.{utc_leaps}, Texts.{utc_rule}}
use Rattle.tz_info.specs.declared.rule.transition_rule.TransitionRule.TheVariants as rules

-- `LMT`, `HST` of both offsets, `HDT`, `HWT` and `HPT`
abbrev pub honolulu_type : ℤ → Bool → ℕ → ℕ → LocalType
honolulu_type west dst first second = record {
  offset = neg_ℤ west;
  dst = dst;
  name = Some (first ∷ second ∷ 84 ∷ []);
}

abbrev pub lmt : LocalType
lmt = honolulu_type (pos 37_886) false 76 77

abbrev pub early_hst : LocalType
early_hst = honolulu_type (pos 37_800) false 72 83

abbrev pub hst : LocalType
hst = honolulu_type (pos 36_000) false 72 83

abbrev pub change : ℤ → ℕ → Transition
change time index = record { unix_leap_time = time; type_index = index }

-- Honolulu's clocks as RFC 8536's appendix B.2 has them, with the first transition at that time
abbrev pub honolulu_from : ℤ → Option TransitionRule → Zone
honolulu_from first rule = record {
  transitions =
      change first 1
      ∷ change (neg_ℤ (pos 1_157_283_000)) 2
      ∷ change (neg_ℤ (pos 1_155_436_200)) 1
      ∷ change (neg_ℤ (pos 880_198_200)) 3
      ∷ change (neg_ℤ (pos 769_395_600)) 4
      ∷ change (neg_ℤ (pos 765_376_200)) 1
      ∷ change (neg_ℤ (pos 712_150_200)) 5
      ∷ [];
  types =
      lmt
      ∷ early_hst
      ∷ honolulu_type (pos 34_200) true 72 68
      ∷ honolulu_type (pos 34_200) true 72 87
      ∷ honolulu_type (pos 34_200) true 72 80
      ∷ hst
      ∷ [];
  leaps = [];
  rule = rule;
}

-- Honolulu's clocks, with a rule or without one
abbrev pub honolulu : Option TransitionRule → Zone
honolulu = honolulu_from (neg_ℤ (pos 2_334_101_314))

-- the footer's rule, `HST10`
abbrev pub hst10 : Option TransitionRule
hst10 = Some (rules.Fixed hst)

-- two types, of which the second holds from the leap time on
abbrev pub two_types : ℤ → Option TransitionRule → Zone
two_types time rule = record {
  transitions = change time 1 ∷ [];
  types = lmt ∷ hst ∷ [];
  leaps = utc_leaps;
  rule = rule;
}

-- those transitions and types, with neither leap seconds nor a rule
abbrev pub listed : List Transition → List LocalType → Zone
listed transitions types = record {
  transitions = transitions;
  types = types;
  leaps = [];
  rule = None;
}

-- one type and its rule, without transitions
abbrev pub utc_zone : Zone
utc_zone = posix_zone utc_rule
