use Rattle.naive_base.proofs.{Words.{arith, to_z-of_z, weekday_number}, Named.{iso_answer, number_below}}
use Rattle.naive_base.proofs.date.NaiveDate.from_isoywd_opt.Goals as goal

pub returns-clause-value : goal.returns-clause-value
returns-clause-value c =
    let w = weekday_number c.args.weekday in let below = number_below c.args.weekday in
    grind (arith, to_z-of_z, iso_answer c.args.year c.args.week w c.in-Some.thursday c.day_in_week.result c.in_range.result below)
