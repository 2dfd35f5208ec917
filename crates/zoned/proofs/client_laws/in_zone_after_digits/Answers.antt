use Rattle.zoned_round.proofs.ForCallers.{itself-in}
use Rattle.zoned.proofs.Words.{arith, ints, stays}
use Rattle.zoned.proofs.client_laws.in_zone_after_digits.Goals as goal

pub returns : goal.returns
returns g c = grind (arith, ints, itself-in, stays)
