use Rattle.zoned_ref.proofs.Words.{arith, one_nearest}
use Rattle.zoned_ref.proofs.laws.one_change.Goals as goal

pub returns : goal.returns
returns c = grind (arith, one_nearest)
