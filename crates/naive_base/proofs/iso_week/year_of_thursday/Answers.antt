use Rattle.naive_base.proofs.{Words.{arith, floors}, Ranges.{year_within}}
use Rattle.naive_base.proofs.iso_week.year_of_thursday.Goals as goal

pub returns-clause-bound : goal.returns-clause-bound
returns-clause-bound c = grind (arith, floors, year_within c.args.thursday (omega (arith, floors)) (omega (arith, floors)))
