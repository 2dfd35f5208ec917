-- What a clock shows: hours, minutes, seconds and nanoseconds. From 10^9 on the nanoseconds are those of a leap second.
use Rattle.std.specs.Prelude.{◌≡◌, ℕ, ◌<◌, ◌≤◌, ◌+◌, ◌*◌, ◌/◌, ◌%◌}

-- a clock has these hands
abbrev pub IsClock : ℕ → ℕ → ℕ → Type 0
IsClock h m s = (h < 24) × (m < 60) × (s < 60)

-- the second of the day that they show
abbrev pub clock_second : ℕ → ℕ → ℕ → ℕ
clock_second h m s = 3600 * h + 60 * m + s

-- the hands at a second of the day
abbrev pub hour_hand : ℕ → ℕ
hour_hand second = second / 3600

abbrev pub minute_hand : ℕ → ℕ
minute_hand second = second / 60 % 60

abbrev pub second_hand : ℕ → ℕ
second_hand second = second % 60

-- the nanoseconds of a new time: a leap second comes only after the last second of a minute
abbrev pub IsFraction : ℕ → ℕ → Type 0
IsFraction second f = (f < 2_000_000_000) × (1_000_000_000 ≤ f → second % 60 ≡ 59)
