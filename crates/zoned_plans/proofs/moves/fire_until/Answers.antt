use Rattle.zoned_plans.proofs.{FireTimes.{usual_between}, Words.{arith}}
use Rattle.zoned_plans.proofs.moves.fire_until.Goals as goal

pub returns : goal.returns
returns g c = grind (arith, usual_between)
