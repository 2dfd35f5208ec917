-- The law of a parsed zone.
use Rattle.std.proofs.Common.{◌↔◌, IfSome, IsSome}
use Rattle.zoned_ref.proofs.{Offsets.{offset_within}, Walls.{zone_wall}}
use Rattle.zoned_ref.specs.{Offsets.{AreOffsetsOf}, TimeZoneRef.{off_of, zone_of}, declared.time_zone_ref.TimeZoneRef.{TimeZoneRef}}
use Rattle.zoned.proofs.Words.{IsNarrow, None, Option, Some, Zone, refl, ℤ, ◌≡◌}
use Rattle.zoned.specs.Headline.{IsLawOf, IsReferenceTo}

law_of : (z : Zone) (off : ℤ → ℤ) → IsNarrow z → AreOffsetsOf z off → IsLawOf z off
law_of z off narrow of_zone = record {
  offsets = of_zone;
  within_day = λ u inside. offset_within z u (off u) narrow (of_zone u inside);
  clocks = λ local wide. zone_wall z off local narrow of_zone wide;
}

pub referred : (z : Zone) (r : Option TimeZoneRef) → IsSome r ↔ IsNarrow z → IfSome r (λ r. zone_of r ≡ z)
    → IfSome r (λ r. AreOffsetsOf z (off_of r)) → IsReferenceTo z r
referred z (Some r) some zone of_zone = record { some = some; zone = zone; law = law_of z (off_of r) (some.0 refl) of_zone }
referred z None some zone of_zone = record { some = some; zone = tt; law = tt }
