use Rattle.naive_base.proofs.{Words.{arith, floors, to_z-of_z}, Ranges.{inner_day_in_years}}
use Rattle.naive_base.proofs.date.found.day_at_place.Goals as goal

pub returns-clause-inner : goal.returns-clause-inner
returns-clause-inner c = λ inner.
    let fits = c.ranges.year in let start = simp to_z-of_z at c.year_start.ensures.value in let bound = c.year_start.ensures.bound in
    let within = inner_day_in_years c.args.year c.args.place inner c.requires in (omega (arith, floors), omega (arith, floors))
