use Rattle.naive_base.proofs.Words.{reading}
use Rattle.naive_plans.proofs.TimeLists.{IsFirstAmong}
use Rattle.naive_plans.proofs.sets.LocalTimesPlan.next_after.Given as goal

abbrev pub invariant-loop-date : goal.invariant-loop-date
invariant-loop-date l = IsFirstAmong l.self.list.now (reading l.local).s l.date-index l.first
