use Rattle.std.proofs.Common.{arith, ◌-◌}
use Rattle.gregorian.proofs.{Floor.{floors}, Cycle.{number_early, number_late}}
use Rattle.gregorian.proofs.dates.day_number.Goals as goal

pub returns-then-month-le2 : goal.returns-then-month-le2
returns-then-month-le2 c =
    let number = number_early c.args.year (c.years_since_base-years.result - 1) c.args.month c.args.day (omega (arith, floors)) (omega arith)
    (omega arith) (omega arith) in
    grind arith

pub returns : goal.returns
returns c =
    let number = number_late c.args.year c.years_since_base-years.result c.args.month c.args.day (omega (arith, floors)) (omega arith)
    (omega arith) (omega arith) in
    grind arith
