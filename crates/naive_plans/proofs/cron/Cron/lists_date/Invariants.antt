use Rattle.naive_plans.specs.Steps.CronDates.{ListsNoDateBefore}
use Rattle.naive_plans.proofs.cron.Cron.lists_date.Given as goal

abbrev pub invariant-loop-month : goal.invariant-loop-month
invariant-loop-month l = ListsNoDateBefore l.self l.month
