-- Days that are given another day, times of day, and days of March 2021.
use Rattle.std.specs.Prelude.{◌≡◌, ℕ, ℤ, pos, Option}
use Rattle.naive_base.specs.{Clock.{clock_second}, Date.{day_number}, Fields.{TimeOfDay}}

-- a day shows itself
abbrev pub itself : ℤ → ℤ
itself n = n

-- and what it is given comes of it
abbrev pub given : Option ℤ → Option ℤ → Type 0
given march_day answer = answer ≡ march_day

-- that hour, minute, second and nanoseconds
abbrev pub clock : ℕ → ℕ → ℕ → ℕ → TimeOfDay
clock hour minute second nanos = record {
  second = clock_second hour minute second;
  fraction = nanos;
}

-- that day of March 2021
abbrev pub march_day : ℕ → ℤ
march_day d = day_number (pos 2021) 3 d
