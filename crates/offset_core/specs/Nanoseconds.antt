-- Lengths of time, as whole numbers of nanoseconds.
use Rattle.std.specs.{Prelude.{ℕ, ◌<◌, ℤ, pos, neg_ℤ, ◌+ℤ◌, ◌*ℤ◌, ◌≤ℤ◌}, Int.{int_min, int_max}}

-- at most the milliseconds of a signed 64-bit number, either way
abbrev pub FitsTimeDelta : ℤ → Type 0
FitsTimeDelta nanos =
    (neg_ℤ (pos 9_223_372_036_854_775_807_000_000) ≤ℤ nanos)
    × (nanos ≤ℤ pos 9_223_372_036_854_775_807_000_000)

-- the nearest number of nanoseconds that a length may have
abbrev pub nearest_length : ℤ → ℤ
nearest_length nanos =
    int_max (neg_ℤ (pos 9_223_372_036_854_775_807_000_000)) (int_min nanos (pos 9_223_372_036_854_775_807_000_000))

-- how many nanoseconds a microsecond lasts, a millisecond, and so on
abbrev pub nanos_per_microsecond : ℤ
nanos_per_microsecond = pos 1_000

abbrev pub nanos_per_millisecond : ℤ
nanos_per_millisecond = pos 1_000_000

abbrev pub nanos_per_second : ℤ
nanos_per_second = pos 1_000_000_000

abbrev pub nanos_per_minute : ℤ
nanos_per_minute = pos 60_000_000_000

abbrev pub nanos_per_hour : ℤ
nanos_per_hour = pos 3_600_000_000_000

-- a day of 24 hours
abbrev pub nanos_per_day : ℤ
nanos_per_day = pos 86_400_000_000_000

-- a week of seven such days
abbrev pub nanos_per_week : ℤ
nanos_per_week = pos 604_800_000_000_000

-- the whole seconds, rounded down, and the nanoseconds after them, of a length in range
abbrev pub AreParts : ℤ → ℕ → Type 0
AreParts secs nanos = (nanos < 1_000_000_000) × FitsTimeDelta (secs *ℤ nanos_per_second +ℤ pos nanos)
