-- Time zones (RFC 8536 section 3.2: a file's transitions, local time types and leap seconds; section 3.3: its footer's rule).
use Rattle.std.specs.Prelude.{ℕ, ℤ, ◌≡◌, ◌<◌, ◌-◌, List, [], ◌∷◌, length, map, slice_get, Option, Some, None, IfSome}
use Rattle.tz_base.specs.{LocalTypes.{LocalType, plain_type}, declared.error.Error.{Error, TheVariants.{FindLocalTimeType, TimeZone}}}
use Rattle.tz_base.specs.declared.error.Expected.TheVariants.{AtLeastOneLocalTimeType, LeapSecondsInOrder, LeapTimeOf64Bits, RuleThatAgreesWithLastTransition}
use Rattle.tz_base.specs.declared.error.Expected.TheVariants.{TransitionTimesThatRise, TypeIndexesWithinTypes, YearThatRuleAnswersIn}
use Rattle.tz_info.specs.{Leaps.{AreLeapSeconds, IsLeapTime, IsLeapTimeRefused, IsUnixTime}, Lists.{last_else}, RuleTypes.{RuleAt, IsRuleRefused, IsRule}}
use Rattle.tz_info.specs.{Transitions.{NameTypes, AreRising, AreTransitions, passed}, declared.rule.transition_rule.TransitionRule.{TransitionRule}}
use Rattle.tz_base.specs.declared.{leap_second.LeapSecond.{LeapSecond}, transition.Transition.{Transition}}

-- what a zone shows: its transitions, its types of local time, its leap seconds, and the rule of its TZ string if it has one
pub record Zone : Type 0 where
  pub transitions : List Transition
  pub types : List LocalType
  pub leaps : List LeapSecond
  pub rule : Option TransitionRule

-- the type of that index
abbrev pub HasType : Zone → ℕ → LocalType → Type 0
HasType z index t = slice_get z.types index ≡ Some t

-- at the Unix time of the transition the rule has the transition's type
pub record Agrees (types : List LocalType) (leaps : List LeapSecond) (rule : TransitionRule) (last : Transition) : Type 0 where
  pub unix_time : ℤ
  pub of_transition : IsUnixTime leaps last.unix_leap_time unix_time
  pub type : LocalType
  pub of_rule : RuleAt rule unix_time type
  pub listed : slice_get types last.type_index ≡ Some type

-- the last transition
abbrev pub last_transition : List Transition → Option Transition
last_transition transitions = slice_get transitions (length transitions - 1)

-- if there are a rule and a transition, the rule agrees with the last one
abbrev pub RuleAgrees : Zone → Type 0
RuleAgrees z = IfSome z.rule (λ rule. IfSome (last_transition z.transitions) (Agrees z.types z.leaps rule))

-- lists that make a zone: there is a type, and the rule agrees with the last transition
pub record IsValid (z : Zone) : Type 0 where
  pub some : 0 < length z.types
  pub transitions : AreTransitions (length z.types) z.transitions
  pub leaps : AreLeapSeconds z.leaps
  pub agrees : RuleAgrees z

-- the first fault of lists that make no zone: of types, of the types and then the times of transitions, of leap seconds, of
-- the rule
pub data ListFault (z : Zone) : Error → Type 0 where
  No_type : ¬ (0 < length z.types) → ListFault z (TimeZone AtLeastOneLocalTimeType)
  Other_index : 0 < length z.types → ¬ (NameTypes (length z.types) z.transitions) → ListFault z (TimeZone TypeIndexesWithinTypes)
  Not_rising : 0 < length z.types → NameTypes (length z.types) z.transitions → ¬ (AreRising z.transitions) → ListFault z (TimeZone TransitionTimesThatRise)
  Other_leaps : 0 < length z.types → AreTransitions (length z.types) z.transitions → ¬ (AreLeapSeconds z.leaps) → ListFault z (TimeZone LeapSecondsInOrder)
  Other_rule : 0 < length z.types → AreTransitions (length z.types) z.transitions → AreLeapSeconds z.leaps → ¬ (RuleAgrees z)
      → ListFault z (TimeZone RuleThatAgreesWithLastTransition)

-- the zone of those types and that rule, without transitions and leap seconds
abbrev pub zone_of_rule : List LocalType → Option TransitionRule → Zone
zone_of_rule types rule = record { transitions = []; types = types; leaps = []; rule = rule }

-- one type at every instant
abbrev pub zone_of_type : LocalType → Zone
zone_of_type t = zone_of_rule (t ∷ []) None

-- the zone of that offset, not daylight saving time and without a name
abbrev pub plain_zone : ℤ → Zone
plain_zone offset = zone_of_type (plain_type offset)

-- the rule's type at the second u, or what holds without a rule
abbrev pub RuleOrElse : Option TransitionRule → ℤ → Type 0 → LocalType → Type 0
RuleOrElse (Some rule) u otherwise t = RuleAt rule u t
RuleOrElse None u otherwise t = otherwise

abbrev pub RuleOrType : Zone → ℤ → ℕ → LocalType → Type 0
RuleOrType z u index t = RuleOrElse z.rule u (HasType z index t) t

-- the rule is asked at the second u, and refused
abbrev pub IsRefusedBy : Option TransitionRule → ℤ → Type 0
IsRefusedBy (Some rule) u = IsRuleRefused rule u
IsRefusedBy None u = ⊥

-- the type index of the last transition at or before the leap time x, or 0 if no transition is
abbrev pub index_at : Zone → ℤ → ℕ
index_at z x = last_else 0 (map (λ t. t.type_index) (passed z.transitions x))

-- some transition comes after the leap time x
abbrev pub IsBeforeLast : Zone → ℤ → Type 0
IsBeforeLast z x = length (passed z.transitions x) < length z.transitions

-- no transition comes after the leap time x
abbrev pub IsFromLast : Zone → ℤ → Type 0
IsFromLast z x = length (passed z.transitions x) ≡ length z.transitions

-- the type at the second u, whose leap time is x, is t
pub record TypeAtLeapTime (z : Zone) (u x : ℤ) (t : LocalType) : Type 0 where
  pub before_last : IsBeforeLast z x → HasType z (index_at z x) t
  pub from_last : IsFromLast z x → RuleOrType z u (index_at z x) t

-- the type at the second u is t; only a zone with transitions asks for the leap time of u
pub record TypeAt (z : Zone) (u : ℤ) (t : LocalType) : Type 0 where
  pub leap_time : ℤ
  pub of_second : 0 < length z.transitions → IsLeapTime z.leaps u leap_time
  pub in_force : TypeAtLeapTime z u leap_time t

-- the zone has no type at the second u: its leap time is refused, or the rule that is asked then
pub data IsTypeRefused (z : Zone) (u : ℤ) : Type 0 where
  by_leap_time : 0 < length z.transitions → IsLeapTimeRefused z.leaps u → IsTypeRefused z u
  by_rule : (x : ℤ) → (0 < length z.transitions → IsLeapTime z.leaps u x) → IsFromLast z x → IsRefusedBy z.rule u → IsTypeRefused z u

-- the error that says which of the two it is
abbrev pub type_error : {z : Zone} {u : ℤ} → IsTypeRefused z u → Error
type_error (by_leap_time some refused) = FindLocalTimeType LeapTimeOf64Bits
type_error (by_rule x of_second last refused) = FindLocalTimeType YearThatRuleAnswersIn

-- the zone has no type at the second u, and e is the error that says why
abbrev pub IsTypeError : Zone → ℤ → Error → Type 0
IsTypeError z u e = (refused : IsTypeRefused z u) × (e ≡ type_error refused)

-- the numbers of the zone's rule are in their limits
abbrev pub IsRuleOrNone : Option TransitionRule → Type 0
IsRuleOrNone (Some rule) = IsRule rule
IsRuleOrNone None = Unit {0}

-- there is a rule, whose type at the second u is t
abbrev pub IsTypeOf : Option TransitionRule → ℤ → LocalType → Type 0
IsTypeOf (Some rule) u t = RuleAt rule u t
IsTypeOf None u t = ⊥
