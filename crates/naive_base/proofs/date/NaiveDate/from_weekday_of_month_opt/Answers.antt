use Rattle.naive_base.proofs.{Words.{arith, to_z-of_z, weekday_number}, Named.{nth_answer, number_below, only_nth}}
use Rattle.naive_base.proofs.date.NaiveDate.from_weekday_of_month_opt.Goals as goal

pub returns-then-n-eq0-clause-value : goal.returns-then-n-eq0-clause-value
returns-then-n-eq0-clause-value c = grind (arith, only_nth c.args.year c.args.month (weekday_number c.args.weekday) c.args.n)

pub returns-in-Some-clause-value : goal.returns-in-Some-clause-value
returns-in-Some-clause-value c =
    let range = c.ranges.year in let w = weekday_number c.args.weekday in
    let found = simp to_z-of_z at c.in-Some.ensures.value in let answer = simp to_z-of_z at c.from_ymd_opt-in-Some.ensures.value in
    nth_answer c.args.year c.args.month w c.args.n c.from_ymd_opt-in-Some.result (number_below c.args.weekday) (omega (arith, c.if-n-eq0.false)) (grind arith)

pub returns-in-None-clause-value : goal.returns-in-None-clause-value
returns-in-None-clause-value c = λ fits day h. grind (arith, only_nth c.args.year c.args.month (weekday_number c.args.weekday) c.args.n day h)
