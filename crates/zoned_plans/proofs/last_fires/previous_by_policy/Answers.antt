use Rattle.zoned_plans.proofs.{LastShown.{none_until_before, second_not_later}, Words.{rules, to_z-of_z}}
use Rattle.zoned_plans.proofs.last_fires.previous_by_policy.Goals as goal

pub returns-in_err-until : goal.returns-in_err-until
returns-in_err-until g c = search (rules, to_z-of_z, none_until_before, second_not_later)

pub returns : goal.returns
returns g c = search (rules, to_z-of_z)
