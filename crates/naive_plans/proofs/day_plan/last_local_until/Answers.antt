use Rattle.naive_base.proofs.Words.{arith, ints, rules, to_z-of_z}
use Rattle.naive_plans.proofs.DayWalk.{all_before, at_start, last_on_day, none_back}
use Rattle.naive_plans.proofs.day_plan.last_local_until.Goals as goal

pub dates-init : goal.dates-init
dates-init g c = grind (arith, to_z-of_z, all_before)

pub dates-preserved : goal.dates-preserved
dates-preserved g c = search (arith, ints, to_z-of_z, none_back)

pub returns-in-Some : goal.returns-in-Some
returns-in-Some g c = search (arith, ints, to_z-of_z, last_on_day)

pub returns-in_err-date : goal.returns-in_err-date
returns-in_err-date g c = search (rules, to_z-of_z, at_start, none_back)
