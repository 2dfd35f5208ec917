-- The offsets of a parsed zone: those of the types in force.
use Rattle.std.specs.Prelude.{◌≡◌, ℤ, List, [], All, Option, Some, None}
use Rattle.offset_core.specs.Offset.{IsWithinDay}
use Rattle.tz_base.specs.LocalTypes.{LocalType}
use Rattle.tz_info.specs.{PosixZones.{types_of}, Zones.{Zone, TypeAt}, declared.rule.transition_rule.TransitionRule.{TransitionRule}}
use Rattle.zoned_time.specs.Zone.{IsZoneSecond}

-- the types of a zone's rule; none without a rule
abbrev pub rule_types : Option TransitionRule → List LocalType
rule_types (Some rule) = types_of rule
rule_types None = []

-- no clock of the zone is a day or more away from UTC: neither one of a type that it lists, nor one of a type of its rule
pub record IsNarrow (z : Zone) : Type 0 where
  pub types : All (λ t. IsWithinDay t.offset) z.types
  pub rule : All (λ t. IsWithinDay t.offset) (rule_types z.rule)

-- each type that the zone lists, and each of its rule, has the offset k
pub record HasOneOffset (z : Zone) (k : ℤ) : Type 0 where
  pub types : All (λ t. t.offset ≡ k) z.types
  pub rule : All (λ t. t.offset ≡ k) (rule_types z.rule)

-- at the second u a type is in force, and k is its offset
pub record HasOffset (z : Zone) (u k : ℤ) : Type 0 where
  pub type : LocalType
  pub in_force : TypeAt z u type
  pub offset : k ≡ type.offset

-- at each second of the range that zones answer in, the zone has an offset
abbrev pub HasOffsets : Zone → Type 0
HasOffsets z = (u : ℤ) → IsZoneSecond u → (k : ℤ) × HasOffset z u k

-- `off` shows it
abbrev pub AreOffsetsOf : Zone → (ℤ → ℤ) → Type 0
AreOffsetsOf z off = (u : ℤ) → IsZoneSecond u → HasOffset z u (off u)
