use Rattle.naive_base.proofs.{Words.{arith, floors, to_z-of_z}, Ranges.{date_in_years}}
use Rattle.naive_base.proofs.date.day_in_range.Goals as goal

pub overflow_cast-result : goal.overflow_cast-result
overflow_cast-result c = grind (arith, floors, to_z-of_z, date_in_years c.args.year c.args.month c.args.day c.requires.year c.requires.date)

pub returns : goal.returns
returns c = grind (arith, floors, to_z-of_z, date_in_years c.args.year c.args.month c.args.day c.requires.year c.requires.date)
