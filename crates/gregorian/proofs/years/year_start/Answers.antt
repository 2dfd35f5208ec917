use Rattle.std.proofs.Common.{arith, ◌-◌}
use Rattle.gregorian.proofs.{Floor.{floors}, Cycle.{january_start}}
use Rattle.gregorian.proofs.years.year_start.Goals as goal

pub returns-clause-value : goal.returns-clause-value
returns-clause-value c = omega (arith, floors, january_start c.args.year (c.years_since_base.result - 1) (omega (arith, floors)))
