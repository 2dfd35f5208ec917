use Rattle.naive_base.proofs.Words.{day_of}
use Rattle.naive_plans.proofs.CronWalk.{IsLeft}
use Rattle.naive_plans.proofs.cron.CronDayPlan.first_second_from.Given as goal

abbrev pub invariant-loop-minute : goal.invariant-loop-minute
invariant-loop-minute l = IsLeft l.self (day_of l.fn.date) l.second l.minute
