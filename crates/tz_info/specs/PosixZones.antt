-- The zones of TZ strings (POSIX.1 section 8.3, "TZ").
use Rattle.std.specs.{Prelude.{ℕ, pos, ◌≡◌, ◌≢◌, ◌⊎◌, ◌+◌, false, true, List, [], ◌∷◌, Some, MatchOption}, Char.{is_ascii_whitespace}, List.{prefix_len}}
use Rattle.tz_base.specs.{Errors.{IsOutOfMemory}, LocalTypes.{LocalType}, declared.{error.Error.{Error}, parse_error.ParseError.{ParseError}}}
use Rattle.tz_info.specs.{Zones.{Zone, plain_zone, zone_of_rule}, TzGrammar.{IsTzText, IsTextFault, text_fault_position}}
use Rattle.tz_base.specs.Trims.{trimmed}
use Rattle.tz_info.specs.declared.rule.transition_rule.TransitionRule.{TransitionRule}
use Rattle.tz_info.specs.declared.rule.transition_rule.TransitionRule.TheVariants as rules

-- the types of a rule, that of standard time first
abbrev pub types_of : TransitionRule → List LocalType
types_of (rules.Fixed t) = t ∷ []
types_of (rules.Alternate a) = a.std ∷ a.dst ∷ []

-- the zone of a rule at every instant
abbrev pub posix_zone : TransitionRule → Zone
posix_zone rule = zone_of_rule (types_of rule) (Some rule)

-- the text without white space of ASCII at its ends (spaces, tabs, line feeds, form feeds, carriage returns) spells the
-- zone's rule
pub record IsZoneOfText (text : List ℕ) (z : Zone) : Type 0 where
  pub some : text ≢ []
  pub rule : TransitionRule
  pub spells : IsTzText false (trimmed text) rule
  pub zone : z ≡ posix_zone rule

-- an empty text is the zone of UTC, another the zone of its rule
abbrev pub IsPosixZone : List ℕ → Zone → Type 0
IsPosixZone text z = ((text ≡ []) × (z ≡ plain_zone (pos 0))) ⊎ IsZoneOfText text z

-- what is wrong with a text
abbrev pub IsPosixFault : List ℕ → Error → Type 0
IsPosixFault text e = (text ≢ []) × IsTextFault false (trimmed text) e

-- the text spells, with the extensions of RFC 8536, section 3.3.1, the rule that the zone has at every instant
abbrev pub IsExtendedZone : List ℕ → Zone → Type 0
IsExtendedZone text z = (rule : TransitionRule) × IsTzText true text rule × (z ≡ posix_zone rule)

-- ---- the place of a fault, as the number of bytes in front of it
-- the error is at such a place, or says that memory ran out and is at none
abbrev pub IsPlaced : (ℕ → Type 0) → ParseError → Type 0
IsPlaced IsPlace e = MatchOption e.position (IsOutOfMemory e.error) (λ place. ¬ (IsOutOfMemory e.error) × IsPlace place)

-- the white space in front is counted
abbrev pub IsPosixFaultPlace : List ℕ → ℕ → Type 0
IsPosixFaultPlace text place = place ≡ prefix_len is_ascii_whitespace text + text_fault_position false (trimmed text)

-- nothing is trimmed
abbrev pub IsExtendedFaultPlace : List ℕ → ℕ → Type 0
IsExtendedFaultPlace text place = place ≡ text_fault_position true text
