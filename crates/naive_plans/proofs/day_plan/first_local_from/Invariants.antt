use Rattle.naive_base.proofs.Words.{day_of, pos, unsigned_abs, ◌-ℤ◌}
use Rattle.naive_plans.specs.DayPlans.{IsPlannedOnItsDay, second_before}
use Rattle.naive_plans.proofs.DayWalk.{IsLeft}
use Rattle.naive_plans.proofs.day_plan.first_local_from.Given as goal

abbrev pub invariant-dates : goal.invariant-dates
invariant-dates g l = IsLeft (IsPlannedOnItsDay (g.D.DayPlan.planned_on l.plan)) (second_before (day_of l.fn.start) l.second) (day_of l.date) l.from

abbrev pub decreases-dates : goal.decreases-dates
decreases-dates g l = unsigned_abs (pos 95_026_238 -ℤ day_of l.date)
