-- The offset of a zone at a second, specified by its property: that of the type in force, at each second of the range that zones
-- answer in, and 0 outside it.
use Rattle.std.specs.Prelude.{◌≡◌, ℤ, pos}
use Rattle.tz_info.specs.Zones.{Zone}
use Rattle.zoned_time.specs.Zone.{IsZoneSecond}
use Rattle.zoned_ref.specs.{Offsets.{HasOffset, HasOffsets}, Steps.OffsetAt.{some_offset}}

-- an offset with that property
pub offset_with : (z : Zone) → ∥ HasOffsets z ∥₁ → (u : ℤ) → (k : ℤ) × (IsZoneSecond u → ∥ HasOffset z u k ∥₁) × (¬ (IsZoneSecond u) → k ≡ pos 0)
offset_with z some u = some_offset z some u

abbrev pub offset_at : (z : Zone) → ∥ HasOffsets z ∥₁ → ℤ → ℤ
offset_at z some u = (offset_with z some u).0
