use Rattle.naive_base.proofs.Words.{reading}
use Rattle.naive_plans.proofs.TimeLists.{IsLastAmong}
use Rattle.naive_plans.proofs.sets.LocalTimesReversiblePlan.last_until.Given as goal

abbrev pub invariant-loop-date : goal.invariant-loop-date
invariant-loop-date l = IsLastAmong l.self.list.now (reading l.local).s l.date-index l.last
