use Rattle.std.proofs.Common.{arith}
use Rattle.gregorian.proofs.{YearLaws.{first_year_start, year_step, lies_in, one_year, day_of_years, year_of_days}}
use Rattle.gregorian.proofs.years.years_law.Goals as goal

pub returns : goal.returns
returns c = record { first = first_year_start; step = year_step; found = lies_in; once = one_year; fits = grind (arith, year_of_days, day_of_years) }
