use Rattle.zoned_plans.proofs.{StepTimes.{none_at, other_at}, Words.{rules, to_z-of_z}}
use Rattle.zoned_plans.proofs.zone_plans.fire_at.Goals as goal

pub returns-in_err-last : goal.returns-in_err-last
returns-in_err-last g c = search (rules, none_at)

pub returns-then-not-is_whole_second_of : goal.returns-then-not-is_whole_second_of
returns-then-not-is_whole_second_of g c = search (rules, to_z-of_z, other_at)
