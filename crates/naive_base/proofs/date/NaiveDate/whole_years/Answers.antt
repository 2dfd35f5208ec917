use Rattle.naive_base.proofs.{Words.{arith, day_of, day_of_month, false, floors, is_earlier_in_year, month_of, true, ◌≡◌}, Named.{years_early, years_late}}
use Rattle.naive_base.proofs.date.NaiveDate.whole_years.Goals as goal

pub returns-then-is_earlier_in_year : goal.returns-then-is_earlier_in_year
returns-then-is_earlier_in_year c =
    let day = day_of c.args.self.now in let base = day_of c.args.base in
    let here = c.year_month_day-date.ensures in let there = c.year_month_day-base.ensures in
    let e : is_earlier_in_year (month_of day) (day_of_month day) (month_of base) (day_of_month base) ≡ true = grind arith in
    omega (arith, floors, years_early day base e, here.year, there.year, here.bound, there.bound)

pub returns : goal.returns
returns c =
    let day = day_of c.args.self.now in let base = day_of c.args.base in
    let here = c.year_month_day-date.ensures in let there = c.year_month_day-base.ensures in
    let e : is_earlier_in_year (month_of day) (day_of_month day) (month_of base) (day_of_month base) ≡ false = grind arith in
    omega (arith, floors, years_late day base e, here.year, there.year, here.bound, there.bound)
