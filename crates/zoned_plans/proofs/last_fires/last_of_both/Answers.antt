use Rattle.zoned_plans.proofs.{LastShown.{fire_last, none_later, only_shown_last, shown_last}, Words.{rules, to_z-of_z}}
use Rattle.zoned_plans.proofs.last_fires.last_of_both.Goals as goal

pub returns-in_default : goal.returns-in_default
returns-in_default g c = search (rules, only_shown_last)

pub returns-in_default-shown : goal.returns-in_default-shown
returns-in_default-shown g c = search (rules, fire_last, none_later)

pub returns-then-timestamp : goal.returns-then-timestamp
returns-then-timestamp g c = search (rules, to_z-of_z, shown_last)

pub returns-else-timestamp : goal.returns-else-timestamp
returns-else-timestamp g c = search (rules, to_z-of_z, fire_last)
