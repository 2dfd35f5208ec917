-- Months counted on over the years, from January of the year 0.
use Rattle.std.specs.Prelude.{ℕ, ◌+◌, ℤ, pos, ◌+ℤ◌, ◌-ℤ◌, ◌*ℤ◌}
use Rattle.gregorian.specs.Year.{floor_div, floor_mod}
use Rattle.naive_base.specs.declared.months_days.{Months.{Months}, Days.{Days}}

-- the number of a month of a year
abbrev pub month_number : ℤ → ℕ → ℤ
month_number y m = y *ℤ pos 12 +ℤ pos m -ℤ pos 1

-- the year and the month of such a number
abbrev pub year_of_number : ℤ → ℤ
year_of_number n = floor_div n 12

abbrev pub month_of_number : ℤ → ℕ
month_of_number n = floor_mod n 12 + 1

-- how many months a `Months` is, and how many days a `Days`
abbrev pub months_of : Months → ℕ
months_of months = months.count

abbrev pub days_of : Days → ℕ
days_of days = days.count
