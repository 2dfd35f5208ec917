use Rattle.naive_base.proofs.Words.{pos, unsigned_abs, ◌+ℤ◌, ◌-ℤ◌}
use Rattle.naive_rrule.proofs.RuleTimes.{AreTo}
use Rattle.naive_rrule.proofs.recurrence.last_to.Given as goal

abbrev pub invariant-times : goal.invariant-times
invariant-times l = AreTo l.of.rule l.of.start l.until l.to

abbrev pub decreases-times : goal.decreases-times
decreases-times l = unsigned_abs (l.to +ℤ pos 1 -ℤ l.of.start)
