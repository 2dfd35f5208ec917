use Rattle.zoned_plans.proofs.{FireTimes.{none_between}, Words.{rules, to_z-of_z}}
use Rattle.zoned_plans.proofs.policies.fire_between.Goals as goal

pub returns-in_err-next : goal.returns-in_err-next
returns-in_err-next g c = search (rules, none_between)

pub returns-then-timestamp : goal.returns-then-timestamp
returns-then-timestamp g c = search (rules, to_z-of_z)
