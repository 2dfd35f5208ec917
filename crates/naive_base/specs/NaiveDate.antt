-- What a `NaiveDate` shows.
use Rattle.std.specs.Prelude.{◌≡◌, ℕ, List, ℤ, Option, Some, None, option_map}
use Rattle.gregorian.specs.{Date.{IsDate, day_number}, DateOf.{year_of, month_of, day_of_month}}
use Rattle.naive_base.specs.{Range.{IsYearInRange, IsDayInRange}, Text.{date_text}, declared.date.NaiveDate.{NaiveDate}}

-- the date's day number
abbrev pub day_of : NaiveDate → ℤ
day_of date = date.day

-- the date of that year, month and day, if and only if the calendar has it and the year is in range
abbrev pub IsDateOf : ℤ → ℕ → ℕ → Option NaiveDate → Type 0
IsDateOf y m d (Some date) = IsYearInRange y × IsDate y m d × (day_of date ≡ day_number y m d)
IsDateOf y m d None = IsYearInRange y → IsDate y m d → ⊥

-- the date of that day number, if and only if it is in range
abbrev pub IsDateOfDay : ℤ → Option NaiveDate → Type 0
IsDateOfDay day (Some date) = IsDayInRange day × (day_of date ≡ day)
IsDateOfDay day None = IsDayInRange day → ⊥

-- the date on the day given, or nothing if no day is given
abbrev pub IsDateOn : Option ℤ → Option NaiveDate → Type 0
IsDateOn day answer = option_map day_of answer ≡ day

-- the bytes of its `Display` and of its `Debug`
abbrev pub printed_date : NaiveDate → List ℕ
printed_date date = date_text (year_of (day_of date)) (month_of (day_of date)) (day_of_month (day_of date))
