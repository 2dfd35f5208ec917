use Rattle.naive_base.proofs.{Words.{arith, to_z-of_z}, Ranges.{inner_day}}
use Rattle.naive_base.proofs.date.NaiveDate.from_ymd_opt.Goals as goal

pub returns-then-is_date-clause-inner : goal.returns-then-is_date-clause-inner
returns-then-is_date-clause-inner c = λ inner. grind (arith, to_z-of_z, inner_day c.args.year c.args.month c.args.day inner)
