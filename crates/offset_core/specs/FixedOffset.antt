-- What a `FixedOffset` shows.
use Rattle.std.specs.Prelude.{◌≡◌, ℕ, List, ℤ, Option, Some, None}
use Rattle.offset_core.specs.{declared.fixed_offset.FixedOffset.{FixedOffset}, Offset.{IsWithinDay, offset_text}}

-- the seconds that local time is ahead of UTC
abbrev pub seconds_of : FixedOffset → ℤ
seconds_of offset = offset.local_minus_utc

-- the offset of that many seconds, if and only if that is within a day
abbrev pub IsOffsetOf : ℤ → Option FixedOffset → Type 0
IsOffsetOf secs (Some offset) = IsWithinDay secs × (seconds_of offset ≡ secs)
IsOffsetOf secs None = IsWithinDay secs → ⊥

-- the bytes of its `Display` and of its `Debug`
abbrev pub printed_offset : FixedOffset → List ℕ
printed_offset offset = offset_text (seconds_of offset)
