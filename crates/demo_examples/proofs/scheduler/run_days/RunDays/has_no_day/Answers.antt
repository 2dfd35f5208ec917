use Rattle.std.proofs.{Common.{arith}, lemmas.Bool.Decides.{nat_tests}}
use Rattle.demo_examples.proofs.ListedTimes.{month_day_bounds}
use Rattle.demo_examples.proofs.scheduler.run_days.RunDays.has_no_day.Goals as goal

pub returns-then-day-eq0 : goal.returns-then-day-eq0
returns-then-day-eq0 c = λ yes day. let bounds = month_day_bounds day in rw c.in-MonthDay.is (λ runs. grind (arith, nat_tests))

pub returns-else-day-eq0 : goal.returns-else-day-eq0
returns-else-day-eq0 c = λ yes day. let bounds = month_day_bounds day in rw c.in-MonthDay.is (λ runs. grind (arith, nat_tests))
