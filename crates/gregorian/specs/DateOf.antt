-- The year and the date of a day, as functions of it. Each is specified by what it is alone: some year that the day lies in, some
-- date that has its number. `years_law` and `dates_law` prove that there is no other.
use Rattle.std.specs.Prelude.{ℕ, ℤ, ◌-ℤ◌, unsigned_abs}
use Rattle.gregorian.specs.{Year.{year_start, LiesIn}, Date.{HasDate}, Steps.{Years.{some_year}, Dates.{some_date}}}

-- a year that the day lies in
pub year_with : (day : ℤ) → (y : ℤ) × LiesIn day y
year_with day = some_year day

-- the year that the day lies in
unfoldable pub year_of : ℤ → ℤ
year_of day = (year_with day).0

-- how many days of its year come before the day
unfoldable pub day_of_year : ℤ → ℕ
day_of_year day = unsigned_abs (day -ℤ year_start (year_of day))

-- a date that has the day as its number
pub date_with : (day : ℤ) → HasDate day
date_with day = some_date day

-- the month of that date
unfoldable pub month_of : ℤ → ℕ
month_of day = (date_with day).month

-- the day of the month of that date
unfoldable pub day_of_month : ℤ → ℕ
day_of_month day = (date_with day).day
