use Rattle.zoned_round.proofs.Words.{numbers}
use Rattle.zoned_round.proofs.stamp.Stamp.way_above.Goals as goal

pub returns-in-0-clause-is : goal.returns-in-0-clause-is
returns-in-0-clause-is c = grind (numbers, c.args.self.now)

pub returns-in_default-clause-is : goal.returns-in_default-clause-is
returns-in_default-clause-is c = grind (numbers, c.args.self.now)
