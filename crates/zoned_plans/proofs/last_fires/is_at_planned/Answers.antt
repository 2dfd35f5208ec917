use Rattle.zoned_plans.proofs.{LastShown.{planned_last}, Words.{by_test, rules, to_z-of_z}}
use Rattle.zoned_plans.proofs.last_fires.is_at_planned.Goals as goal

pub returns-in-None : goal.returns-in-None
returns-in-None g c = search rules

pub returns-in-Some : goal.returns-in-Some
returns-in-Some g c = search (rules, to_z-of_z, by_test, planned_last)
