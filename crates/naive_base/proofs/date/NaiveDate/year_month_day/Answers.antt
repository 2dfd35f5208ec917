use Rattle.naive_base.proofs.{Words.{arith, floors}, Ranges.{wide_year}}
use Rattle.naive_base.proofs.date.NaiveDate.year_month_day.Goals as goal

pub returns-clause-bound : goal.returns-clause-bound
returns-clause-bound c = grind (arith, floors, wide_year c.number.result c.number.ensures.bound)
