use Rattle.naive_base.proofs.Words.{unsigned_abs, ◌-ℤ◌, ◌≤ℤ◌}
use Rattle.naive_rrule.proofs.RuleTimes.{AreFrom}
use Rattle.naive_rrule.proofs.recurrence.first_between.Given as goal

abbrev pub invariant-times : goal.invariant-times
invariant-times l = (l.left ≤ℤ l.end) × AreFrom l.of.rule l.of.start l.from l.left

abbrev pub decreases-times : goal.decreases-times
decreases-times l = unsigned_abs (l.end -ℤ l.left)
