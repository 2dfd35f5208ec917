use Rattle.naive_base.proofs.Words.{arith, ints, rules, to_z-of_z}
use Rattle.naive_plans.proofs.DayWalk.{all_left, at_end, found_on_day, none_on_day}
use Rattle.naive_plans.proofs.day_plan.first_local_from.Goals as goal

pub dates-init : goal.dates-init
dates-init g c = grind (arith, to_z-of_z, all_left)

pub dates-preserved : goal.dates-preserved
dates-preserved g c = search (arith, ints, to_z-of_z, none_on_day)

pub returns-in-Some : goal.returns-in-Some
returns-in-Some g c = search (arith, ints, to_z-of_z, found_on_day)

pub returns-in_err-date : goal.returns-in_err-date
returns-in_err-date g c = search (rules, to_z-of_z, at_end, none_on_day)
