-- Periods of UTC, from a year or a day to another.
use Rattle.std.specs.Prelude.{ℕ, ℤ, pos, neg_ℤ, ◌≤ℤ◌, ◌<ℤ◌, ◌+ℤ◌, ◌*ℤ◌, List, decimal}
use Rattle.json.specs.Json.{Json, number, string}
use Rattle.naive_base.specs.{NaiveDate.{day_of, printed_date}, Year.{year_start}}
use Rattle.zonedump_lib.specs.declared.period.Bound.{Bound}
use Rattle.zonedump_lib.specs.declared.period.Bound.TheVariants as bounds

-- the second of Unix time at which the year begins in UTC
abbrev pub year_second : ℤ → ℤ
year_second year = year_start year *ℤ pos 86_400

-- the first second after the year
abbrev pub year_until : ℤ → ℤ
year_until year = year_second (year +ℤ pos 1)

-- a second of the years 1 to 9999, or near them
abbrev pub IsNearYears : ℤ → Type 0
IsNearYears at = (neg_ℤ (pos 70_000_000_000) ≤ℤ at) × (at ≤ℤ pos 260_000_000_000)

-- a second of the years 1 to 9999, or the first one after them
abbrev pub IsInYears : ℤ → Type 0
IsInYears at = (neg_ℤ (pos 62_135_596_800) ≤ℤ at) × (at ≤ℤ pos 253_402_300_800)

-- the second of Unix time at which the day of that number begins in UTC
abbrev pub day_second : ℤ → ℤ
day_second day = day *ℤ pos 86_400

-- the first second of the year or of the day
abbrev pub first_second : Bound → ℤ
first_second (bounds.Year year) = year_second (pos year)
first_second (bounds.Date date) = day_second (day_of date)

-- the first second after it
abbrev pub second_after : Bound → ℤ
second_after (bounds.Year year) = year_until (pos year)
second_after (bounds.Date date) = day_second (day_of date +ℤ pos 1)

-- what a table may be asked for: from a year or a day to the same one or a later one, in the years 1 to 9999
pub record IsPeriod (first last : Bound) : Type 0 where
  pub begins : neg_ℤ (pos 62_135_596_800) ≤ℤ first_second first
  pub ordered : first_second first <ℤ second_after last
  pub ends : second_after last ≤ℤ pos 253_402_300_800

-- a year as its number, a day as its date
abbrev pub bound_words : Bound → List ℕ
bound_words (bounds.Year year) = decimal year
bound_words (bounds.Date date) = printed_date date

abbrev pub bound_value : Bound → Json
bound_value (bounds.Year year) = number (decimal year)
bound_value (bounds.Date date) = string (printed_date date)
