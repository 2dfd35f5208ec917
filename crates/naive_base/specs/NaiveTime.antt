-- What a `NaiveTime` shows.
use Rattle.std.specs.Prelude.{◌≡◌, ℕ, List, Option, Some, None}
use Rattle.naive_base.specs.{Fields.{TimeOfDay}, Clock.{IsFraction}, Text.{time_text}, declared.time.NaiveTime.{NaiveTime}}

-- the time's second of the day
abbrev pub second_of : NaiveTime → ℕ
second_of time = time.secs

-- the time's nanoseconds, from 10^9 on those of a leap second
abbrev pub fraction_of : NaiveTime → ℕ
fraction_of time = time.frac

-- the time at that second of the day and those nanoseconds, if and only if the clock has the second and a new time may
-- have the nanoseconds
abbrev pub IsTimeOf : Type 0 → ℕ → ℕ → Option NaiveTime → Type 0
IsTimeOf on_clock second f (Some time) = on_clock × IsFraction second f × (second_of time ≡ second) × (fraction_of time ≡ f)
IsTimeOf on_clock second f None = on_clock → IsFraction second f → ⊥

-- the bytes of its `Display` and of its `Debug`
abbrev pub printed_time : NaiveTime → List ℕ
printed_time time = time_text (second_of time) (fraction_of time)

-- the second of the day and the nanoseconds of a `NaiveTime`
abbrev pub time_of : NaiveTime → TimeOfDay
time_of time = record { second = time.secs; fraction = time.frac }
