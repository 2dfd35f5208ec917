use Rattle.naive_base.proofs.Words.{day_of, pos, reading_at, unsigned_abs, ◌+ℤ◌}
use Rattle.naive_plans.specs.DayPlans.{IsPlannedOnItsDay}
use Rattle.naive_plans.proofs.DayWalk.{IsLeftBefore}
use Rattle.naive_plans.proofs.day_plan.last_local_until.Given as goal

abbrev pub invariant-dates : goal.invariant-dates
invariant-dates g l = IsLeftBefore (IsPlannedOnItsDay (g.D.DayPlan.planned_on l.plan)) (reading_at (day_of l.fn.start) l.second 0).s (day_of l.date) l.until

abbrev pub decreases-dates : goal.decreases-dates
decreases-dates g l = unsigned_abs (day_of l.date +ℤ pos 96_465_294)
