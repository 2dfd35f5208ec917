use Rattle.zoned_time.proofs.Words.{casts, ints}
use Rattle.zoned_time.proofs.reached.reached_at.Goals as goal

pub returns-clause-reached : goal.returns-clause-reached
returns-clause-reached g c = grind (casts, ints)
