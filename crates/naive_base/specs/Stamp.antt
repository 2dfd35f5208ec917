-- Timestamps: whole seconds since 1970-01-01 00:00:00, and nanoseconds after them.
use Rattle.std.specs.Prelude.{◌≡◌, ℕ, ◌<◌, ◌≤◌, ℤ}
use Rattle.gregorian.specs.Year.{floor_mod}
use Rattle.naive_base.specs.{Range.{IsInRange}, Reading.{Reading}}

-- the local date-time of that many seconds and nanoseconds
abbrev pub of_secs : ℤ → ℕ → Reading
of_secs secs nanos = record { s = secs; f = nanos }

-- nanoseconds that a stamp may have after its second: from 10^9 on, those of a leap second, only after the last second
-- of a minute
abbrev pub IsSubsecond : ℤ → ℕ → Type 0
IsSubsecond s f = (f < 2_000_000_000) × (1_000_000_000 ≤ f → floor_mod s 60 ≡ 59)

-- a local date-time that a stamp may name
abbrev pub IsStamp : Reading → Type 0
IsStamp r = IsInRange r.s × IsSubsecond r.s r.f
