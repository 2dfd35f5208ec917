-- Each choice has an answer for each local date-time, by the offsets of a narrow zone.
use Rattle.zoned_ref.proofs.Words.{AreOffsetsOf, Choice, IsInRange, IsNarrow, IsRuleOrNone, IsTaken, IsUnresolved, IsValid, IsWide, ResolveError, Zone}
use Rattle.zoned_ref.proofs.Words.{choice_decided, offset_at, wall_decided, ℤ, ◌-ℤ◌, ◌⊎◌}
use Rattle.zoned_ref.proofs.{Offsets.{are_offsets, offsets_within, zone_has_offsets}, Walls.{zone_wall}}

pub choice_covered : (z : Zone) (l : ℤ) (choice : Choice) → IsValid z → IsRuleOrNone z.rule → IsNarrow z → IsWide l
    → (off : ℤ → ℤ) × AreOffsetsOf z off × (((k : ℤ) × IsTaken off l choice k × IsInRange (l -ℤ k)) ⊎ ((e : ResolveError) × IsUnresolved off l choice e))
choice_covered z l choice valid rule narrow wide =
    let has = zone_has_offsets z valid rule in let off = offset_at z ∣ has ∣₁ in
    let of_zone = are_offsets z ∣ has ∣₁ has in let types = wall_decided z l valid rule in
    (off, of_zone, choice_decided off l choice (offsets_within z ∣ has ∣₁ has narrow) wide _ (zone_wall z off l narrow of_zone wide types.0 types.1))
