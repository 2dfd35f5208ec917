use Rattle.naive_base.proofs.{Words.{arith, floors, to_z-of_z, ◌-◌}, Ranges.{day_in_years, inner_day_in_years}}
use Rattle.naive_base.proofs.date.NaiveDate.of_ordinal.Goals as goal

pub of_day-requires : goal.of_day-requires
of_day-requires c =
    let fits = c.ranges.year in let number = simp to_z-of_z at c.day_of_ordinal.ensures in
    omega (arith, floors, day_in_years c.args.year (c.args.ordinal - 1) c.requires.year (omega arith))

pub returns-clause-in_range : goal.returns-clause-in_range
returns-clause-in_range c = grind (arith, floors, day_in_years c.args.year (c.args.ordinal - 1) c.requires.year (omega arith))

pub returns-clause-inner : goal.returns-clause-inner
returns-clause-inner c = grind (arith, floors, inner_day_in_years c.args.year (c.args.ordinal - 1))
