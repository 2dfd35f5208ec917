-- The TZ string that is written of a rule, or of a zone that a TZ string gives (POSIX.1 section 8.3, "TZ"; RFC 8536 section 3.3.1
-- has the extensions).
use Rattle.std.specs.Prelude.{ℕ, ◌≡◌, ◌<◌, ◌⊎◌, ℤ, pos, ◌≤ℤ◌, ◌<ℤ◌, Bool, true, false, List, [], ◌∷◌, length, Option, Some, None}
use Rattle.offset_core.specs.Offset.{IsWithinDay}
use Rattle.tz_base.specs.{Fronts.{is_digit, NoneFirst}, LocalTypes.{LocalType, plain_type}, Names.{IsName}}
use Rattle.tz_info.specs.{PosixZones.{types_of, IsPosixZone}, Rules.{IsWithinWeek}, TzGrammar.{colon, IsTzText}, Zones.{Zone}}
use Rattle.tz_info.specs.declared.rule.transition_rule.TransitionRule.{TransitionRule}
use Rattle.tz_info.specs.declared.rule.transition_rule.TransitionRule.TheVariants as rules

-- two digits, and no third
abbrev pub TwoDigits : List ℕ → Type 0
TwoDigits [] = ⊥
TwoDigits (a ∷ []) = ⊥
TwoDigits (a ∷ b ∷ rest) = (is_digit a ≡ true) × (is_digit b ≡ true) × NoneFirst is_digit rest

-- each colon has two digits after it: minutes and seconds are written `mm` and `ss`, as POSIX has them
abbrev pub AreInPairs : List ℕ → Type 0
AreInPairs [] = Unit {0}
AreInPairs (b ∷ bs) = (b ≡ colon → TwoDigits bs) × AreInPairs bs

-- ---- which rules have a text
-- the type has that name, which is one that a type can have, and that DST flag
pub record IsNamed (name : List ℕ) (dst : Bool) (t : LocalType) : Type 0 where
  pub allowed : IsName name
  pub named : t.name ≡ Some name
  pub flag : t.dst ≡ dst

-- the type has a name, and that DST flag
abbrev pub IsNamedType : Bool → LocalType → Type 0
IsNamedType dst t = (name : List ℕ) × IsNamed name dst t

-- some text spells the rule: each type has a name, the DST flag is set for daylight saving time only, and the offset of a rule of one
-- type is less than a day
abbrev pub CanBeSpelled : TransitionRule → Type 0
CanBeSpelled (rules.Fixed t) = IsNamedType false t × IsWithinDay t.offset
CanBeSpelled (rules.Alternate a) = IsNamedType false a.std × IsNamedType true a.dst

-- a time of day that needs no extensions: from 0 to 24:59:59
abbrev pub IsPlainTime : ℤ → Type 0
IsPlainTime time = (pos 0 ≤ℤ time) × (time <ℤ pos 90_000)

-- a time of day of a text with extensions, or without
abbrev pub IsTextTime : Bool → ℤ → Type 0
IsTextTime true time = IsWithinWeek time
IsTextTime false time = IsPlainTime time

-- a text with extensions, or without, has room for the rule's times
abbrev pub AreTimesOf : Bool → TransitionRule → Type 0
AreTimesOf extended (rules.Fixed t) = Unit {0}
AreTimesOf extended (rules.Alternate a) = IsTextTime extended a.start.time × IsTextTime extended a.end.time

-- a text without extensions spells the rule
abbrev pub HasPlainText : TransitionRule → Type 0
HasPlainText rule = CanBeSpelled rule × AreTimesOf false rule

-- no text spells the rule, with extensions or without
abbrev pub IsUnspelled : TransitionRule → Type 0
IsUnspelled rule = (extended : Bool) (bytes : List ℕ) → ¬ (IsTzText extended bytes rule)

-- the text that is written of a rule, and whether it is one with extensions: it spells the rule; it has extensions only if
-- each text that spells the rule does; and each other one that spells it so is longer
pub record IsWrittenText (rule : TransitionRule) (bytes : List ℕ) (extended : Bool) : Type 0 where
  pub spells : IsTzText extended bytes rule
  pub pairs : AreInPairs bytes
  pub needed : extended ≡ true → (other : List ℕ) → ¬ (IsTzText false other rule)
  pub shortest : (other : List ℕ) → IsTzText extended other rule → AreInPairs other → (other ≡ bytes) ⊎ (length bytes < length other)

-- ---- zones
-- a text gives the zone of those types and that rule: they are the rule's, which a text without extensions spells; or, without a
-- rule, UTC's
abbrev pub HasZoneText : List LocalType → Option TransitionRule → Type 0
HasZoneText types (Some rule) = (types ≡ types_of rule) × HasPlainText rule
HasZoneText types None = types ≡ plain_type (pos 0) ∷ []

-- a text gives the zone: it has neither transitions nor leap seconds, and its types and its rule have a text
pub record IsOfText (z : Zone) : Type 0 where
  pub transitions : z.transitions ≡ []
  pub leaps : z.leaps ≡ []
  pub rule : HasZoneText z.types z.rule

-- no text gives the zone
abbrev pub IsNoPosixZone : Zone → Type 0
IsNoPosixZone z = (text : List ℕ) → ¬ (IsPosixZone text z)

-- the text that is written of a zone: it gives the zone, and each other one that gives it is longer
pub record IsWrittenZone (z : Zone) (text : List ℕ) : Type 0 where
  pub gives : IsPosixZone text z
  pub pairs : AreInPairs text
  pub shortest : (other : List ℕ) → IsPosixZone other z → AreInPairs other → (other ≡ text) ⊎ (length text < length other)
