use Rattle.zoned_round.proofs.Words.{numbers}
use Rattle.zoned_round.proofs.stamp.Stamp.way_to_nearest.Goals as goal

pub returns-then-past-self-clause-is : goal.returns-then-past-self-clause-is
returns-then-past-self-clause-is c = grind (numbers, c.args.self.now)

pub returns-else-past-self-clause-is : goal.returns-else-past-self-clause-is
returns-else-past-self-clause-is c = grind (numbers, c.args.self.now)
