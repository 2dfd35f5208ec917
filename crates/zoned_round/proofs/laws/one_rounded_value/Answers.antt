use Rattle.zoned_round.proofs.{Words.{numbers}, Instants.{gone-once, not-refused, refusal-once}}
use Rattle.zoned_round.proofs.laws.one_rounded_value.Goals as goal

pub returns-clause-rounded : goal.returns-clause-rounded
returns-clause-rounded g c = grind (numbers, gone-once)

pub returns-clause-refused : goal.returns-clause-refused
returns-clause-refused g c = grind (numbers, refusal-once)

pub returns-clause-not_both : goal.returns-clause-not_both
returns-clause-not_both g c = grind (numbers, not-refused)
