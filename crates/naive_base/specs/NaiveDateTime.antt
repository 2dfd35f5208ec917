-- What a `NaiveDateTime` shows.
use Rattle.std.specs.Prelude.{◌≡◌, ℕ, ℤ, List, Option, Some, None, option_map}
use Rattle.naive_base.specs.{Clock.{IsFraction}, Range.{IsInRange}, Reading.{Reading, reading_at, day_at, second_at}, Fields.{TimeOfDay, reading_on}}
use Rattle.naive_base.specs.{Text.{reading_text}, declared.datetime.NaiveDateTime.{NaiveDateTime}}

-- the local date-time that a `NaiveDateTime` shows
abbrev pub reading : NaiveDateTime → Reading
reading datetime = record { s = datetime.secs; f = datetime.frac }

-- the `NaiveDateTime` that shows the local date-time, if and only if it is in range
abbrev pub IsReadingOf : Reading → Option NaiveDateTime → Type 0
IsReadingOf r (Some datetime) = IsInRange r.s × (reading datetime ≡ r)
IsReadingOf r None = IsInRange r.s → ⊥

-- the local date-time of that day, at that second of the day and those nanoseconds, if and only if the clock has the second and a
-- new time may have the nanoseconds
abbrev pub IsReadingOn : ℤ → Type 0 → ℕ → ℕ → Option NaiveDateTime → Type 0
IsReadingOn day on_clock second f (Some datetime) =
    on_clock × IsFraction second f × (reading datetime ≡ reading_at day second f)
IsReadingOn day on_clock second f None = on_clock → IsFraction second f → ⊥

-- the day that it shows
abbrev pub day_shown_by : NaiveDateTime → ℤ
day_shown_by datetime = day_at (reading datetime)

-- a local date-time's time on the day given, or nothing if nothing is given
abbrev pub IsReadingOnDay : Reading → Option ℤ → Option NaiveDateTime → Type 0
IsReadingOnDay old day answer = option_map reading answer ≡ option_map (λ n. reading_at n (second_at old) old.f) day

-- a local date-time's day at the time given, or nothing if nothing is given
abbrev pub IsReadingAtTime : Reading → Option TimeOfDay → Option NaiveDateTime → Type 0
IsReadingAtTime old time answer = option_map reading answer ≡ option_map (reading_on (day_at old)) time

-- the bytes of its `Display`, with a space between the date and the time, and of its `Debug`, with a `T`
abbrev pub printed_reading : NaiveDateTime → List ℕ
printed_reading datetime = reading_text 32 (reading datetime)

abbrev pub debug_reading : NaiveDateTime → List ℕ
debug_reading datetime = reading_text 84 (reading datetime)
