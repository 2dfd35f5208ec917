-- Years counted from the start of a cycle of 400 that ends with its leap years: from 1 January of a year after a multiple
-- of 400, or from 1 March of a multiple of 400. The code of the calendar computes with these.
use Rattle.std.specs.Prelude.{ℕ, ◌+◌, ◌-◌, ◌*◌, ◌/◌}

-- the days of the first n years
abbrev pub days_of_years : ℕ → ℕ
days_of_years n = 365 * n + n / 4 - n / 100 + n / 400

-- the days from the first 1 March to a date of the year from March on, with the months 3 to 14
abbrev pub number_from_march : ℕ → ℕ → ℕ → ℕ
number_from_march n m d = days_of_years n + (153 * m - 457) / 5 + (d - 1)
