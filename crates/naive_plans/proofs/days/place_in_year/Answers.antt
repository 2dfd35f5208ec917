use Rattle.naive_base.proofs.Words.{rules, to_z-of_z}
use Rattle.naive_plans.proofs.DayPlaces.{before_end}
use Rattle.naive_plans.proofs.days.place_in_year.Goals as goal

pub overflow_sub-result-2 : goal.overflow_sub-result-2
overflow_sub-result-2 c = search (rules, to_z-of_z, before_end)
