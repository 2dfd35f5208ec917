-- Dates and their day numbers.
use Rattle.std.specs.Prelude.{◌≡◌, ℕ, ◌+◌, ◌-◌, ◌≤◌, ℤ, pos, ◌+ℤ◌}
use Rattle.gregorian.specs.{Year.{is_leap, year_start}, Month.{days_in_month, days_of_months}}

-- the calendar has this date
abbrev pub IsDate : ℤ → ℕ → ℕ → Type 0
IsDate y m d = (1 ≤ m) × (m ≤ 12) × (1 ≤ d) × (d ≤ days_in_month (is_leap y) m)

-- the days from 1970-01-01 to the date
unfoldable pub day_number : ℤ → ℕ → ℕ → ℤ
day_number y m d = year_start y +ℤ pos (days_of_months (is_leap y) (m - 1) + (d - 1))

-- a date of the day number n: the calendar has it, and n is its number
pub record HasDate (n : ℤ) : Type 0 where
  pub year : ℤ
  pub month : ℕ
  pub day : ℕ
  pub is_date : IsDate year month day
  pub number : day_number year month day ≡ n
