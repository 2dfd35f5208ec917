-- Timestamps: instants as whole numbers of seconds, milliseconds, microseconds or nanoseconds since 1970-01-01 00:00:00 UTC.
use Rattle.std.specs.Prelude.{◌/◌, ◌*◌, ℤ, pos, ◌+ℤ◌, ◌*ℤ◌}
use Rattle.offset_core.specs.declared.local_result.LocalResult.{LocalResult, TheVariants.{Single, Ambiguous, None}}
use Rattle.naive_base.specs.{Year.{floor_div, floor_mod}, Reading.{Reading}}
use Rattle.zoned_time.specs.{declared.utc.Utc.{Utc}, Zone.{Meaning, Law}, Zoned.{Zoned, IsAt}}

-- a date-time's milliseconds, which go on counting past the second of a leap second. (Its nanoseconds are its total.)
abbrev pub millis_of : Reading → ℤ
millis_of r = r.s *ℤ pos 1_000 +ℤ pos (r.f / 1_000_000)

-- a date-time's microseconds, which go on counting past the second of a leap second
abbrev pub micros_of : Reading → ℤ
micros_of r = r.s *ℤ pos 1_000_000 +ℤ pos (r.f / 1_000)

-- the date-time of that many milliseconds, which is no leap second
abbrev pub of_millis : ℤ → Reading
of_millis n = record { s = floor_div n 1_000; f = floor_mod n 1_000 * 1_000_000 }

-- the date-time of that many microseconds, which is no leap second
abbrev pub of_micros : ℤ → Reading
of_micros n = record { s = floor_div n 1_000_000; f = floor_mod n 1_000_000 * 1_000 }

-- a date-time as an instant in UTC
abbrev pub in_utc : Reading → Zoned Utc
in_utc r = record { utc = r; offset = record {} }

-- the date-time r in UTC with the zone's offset then, if and only if p holds
abbrev pub IsAtWhere : {O : Type 0} {m : Meaning O} → Law m → Type 0 → Reading → LocalResult (Zoned O) → Type 0
IsAtWhere law p r (Single d) = p × IsAt law r d
IsAtWhere law p r (Ambiguous d e) = ⊥
IsAtWhere law p r None = p → ⊥
