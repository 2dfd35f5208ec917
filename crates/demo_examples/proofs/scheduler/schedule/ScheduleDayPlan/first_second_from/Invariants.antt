use Rattle.zoned.specs.NaiveDate.{day_of}
use Rattle.demo_examples.proofs.ListedTimes.{IsFoundAmong}
use Rattle.demo_examples.proofs.scheduler.schedule.ScheduleDayPlan.first_second_from.Given as goal

abbrev pub invariant-loop-time : goal.invariant-loop-time
invariant-loop-time l = IsFoundAmong l.self (day_of l.fn.date) l.second l.time-index l.first
