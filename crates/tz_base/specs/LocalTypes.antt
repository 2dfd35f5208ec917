-- Local time types (RFC 8536 section 3.2, "local time type record"; the offset counts east of UTC).
use Rattle.std.specs.Prelude.{ℕ, ℤ, pos, neg_ℤ, ◌≤ℤ◌, int_le, Bool, false, if◌then◌else◌, List, Option, Some, None}
use Rattle.tz_base.specs.{Names.{expected_of_name}, declared.error.Expected.{Expected, TheVariants.{OffsetAboveI32Min}}}

-- what a local time type shows: seconds east of UTC, whether it is daylight saving time, and its name if it has one
pub record LocalType : Type 0 where
  pub offset : ℤ
  pub dst : Bool
  pub name : Option (List ℕ)

-- an i32 but the least one, so that its negative is one too
abbrev pub IsUtOffset : ℤ → Type 0
IsUtOffset offset = (neg_ℤ (pos 2_147_483_647) ≤ℤ offset) × (offset ≤ℤ pos 2_147_483_647)

-- the type of that offset, not daylight saving time and without a name
abbrev pub plain_type : ℤ → LocalType
plain_type offset = record { offset = offset; dst = false; name = None }

-- what is expected of an offset and a name that no type can have: another offset, or else another name
abbrev pub expected_of_type : ℤ → Option (List ℕ) → Expected
expected_of_type offset None = OffsetAboveI32Min
expected_of_type offset (Some text) = if int_le (neg_ℤ (pos 2_147_483_647)) offset then expected_of_name text else OffsetAboveI32Min
