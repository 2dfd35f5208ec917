use Rattle.naive_base.proofs.Words.{day_of}
use Rattle.naive_plans.proofs.CronWalk.{IsLeftBefore}
use Rattle.naive_plans.proofs.cron.CronReversibleDayPlan.last_second_until.Given as goal

abbrev pub invariant-loop-left : goal.invariant-loop-left
invariant-loop-left l = IsLeftBefore l.self (day_of l.fn.date) l.second l.left

abbrev pub decreases-loop-left : goal.decreases-loop-left
decreases-loop-left l = l.left
