use Rattle.zoned_plans.proofs.{StepTimes.{lengths_add, once, whole}, Words.{rules}}
use Rattle.zoned_plans.proofs.laws.steps.steps_partition.Goals as goal

pub returns : goal.returns
returns c = search (rules, lengths_add, once, whole)
