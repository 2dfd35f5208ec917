-- What is written of local time types, of the standard offset, and of the amount of daylight saving time.
use Rattle.std.specs.{Prelude.{ℕ, ℤ, ◌≡◌, ◌⊎◌, pos, List, [], ◌∷◌, ◌++◌, drop, length, Bool, true, false, Option, Some, None, neg_ℤ}, List.{AllZip}}
use Rattle.tz_base.specs.LocalTypes.{LocalType, IsUtOffset}
use Rattle.tz_info.specs.Zones.{Zone, TypeAt, IsTypeRefused}
use Rattle.zoned_ffi.specs.{declared.local_type.WrittenType.{WrittenType}, declared.saving.WrittenSaving.{WrittenSaving}}
use Rattle.tz_saving.specs.{Amounts.{IsSavingAt}, declared.saving.Saving.{Saving}}

-- INT32_MIN, which is no offset
abbrev pub no_offset : ℤ
no_offset = neg_ℤ (pos 2_147_483_648)

-- the offset of the type in force at the second u, or the mark if the zone has no type there
abbrev pub IsWrittenOffsetAt : Zone → ℤ → ℤ → Type 0
IsWrittenOffsetAt z u offset =
    ((t : LocalType) × TypeAt z u t × (offset ≡ t.offset) × IsUtOffset offset)
    ⊎ (IsTypeRefused z u × (offset ≡ no_offset))

-- one offset for each instant, in the same order
abbrev pub AreOffsetsAt : Zone → List ℤ → List ℤ → Type 0
AreOffsetsAt z instants offsets = AllZip (IsWrittenOffsetAt z) instants offsets

-- eight zero bytes
abbrev pub zeros : List ℕ
zeros = 0 ∷ 0 ∷ 0 ∷ 0 ∷ 0 ∷ 0 ∷ 0 ∷ 0 ∷ []

-- eight bytes: a name, which has at most seven, and zeros after it; no name is zeros alone
abbrev pub zero_ended : Option (List ℕ) → List ℕ
zero_ended (Some name) = name ++ drop (length name) zeros
zero_ended None = zeros

abbrev pub mark : Bool → ℤ
mark true = pos 1
mark false = pos 0

-- how a type is written
abbrev pub written_type : LocalType → WrittenType
written_type t = record { offset = t.offset; is_dst = mark t.dst; abbreviation = zero_ended t.name }

-- what is written if the zone has no type
abbrev pub no_type : WrittenType
no_type = record { offset = no_offset; is_dst = pos 0; abbreviation = zeros }

-- what is written of the second u
abbrev pub IsWrittenTypeAt : Zone → ℤ → WrittenType → Type 0
IsWrittenTypeAt z u w =
    ((t : LocalType) × TypeAt z u t × (w ≡ written_type t))
    ⊎ (IsTypeRefused z u × (w ≡ no_type))

-- one type for each instant, in the same order
abbrev pub AreWrittenTypesAt : Zone → List ℤ → List WrittenType → Type 0
AreWrittenTypesAt z instants types = AllZip (IsWrittenTypeAt z) instants types

-- how they are written
abbrev pub written_saving : Saving → WrittenSaving
written_saving s = record { standard_offset = s.standard_offset; amount = s.amount }

-- those in force at the second u are written
abbrev pub IsWrittenSavingAt : Zone → ℤ → WrittenSaving → Type 0
IsWrittenSavingAt z u w = (s : Saving) × IsSavingAt z u s × (w ≡ written_saving s)
