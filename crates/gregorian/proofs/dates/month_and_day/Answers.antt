use Rattle.std.proofs.Common.{arith, ◌-◌, to_z-of_z}
use Rattle.gregorian.specs.Year.{is_leap}
use Rattle.gregorian.proofs.{MonthDays.{months_late}, Cycle.{days_with_leap}, DateLaws.{place_early, place_late}}
use Rattle.gregorian.proofs.dates.month_and_day.Goals as goal

pub returns-then-day_of_year-before_march : goal.returns-then-day_of_year-before_march
returns-then-day_of_year-before_march c =
    let fits = c.ranges.year in let march = simp to_z-of_z at c.days_before_month-before_march.ensures.value in
    grind (arith, place_early c.args.year c.args.day_of_year (omega (arith, months_late (is_leap c.args.year) 3 (omega arith) (omega arith))))

pub returns : goal.returns
returns c =
    let fits = c.ranges.year in let march = simp to_z-of_z at c.days_before_month-before_march.ensures.value in
    let first = months_late (is_leap c.args.year) 3 (omega arith) (omega arith) in let all = days_with_leap c.args.year in
    grind (arith, place_late c.args.year c.args.day_of_year (c.args.day_of_year - c.days_before_month-before_march.result) (omega arith) (omega arith))
