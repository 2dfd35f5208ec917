use Rattle.std.proofs.Common.{get_or, neg_ℤ, pos, ℕ, ◌<◌, ◌≤ℤ◌}
use Rattle.naive_rrule.specs.declared.rule.NthWeekday.{NthWeekday}
use Rattle.naive_rrule.proofs.recurrence.are_weekdays.Given as goal

abbrev pub invariant-loop-entry : goal.invariant-loop-entry
invariant-loop-entry l = (k : ℕ) (d : NthWeekday) → k < l.entry-index → (neg_ℤ (pos 53) ≤ℤ (get_or l.list k d).nth) × ((get_or l.list k d).nth ≤ℤ pos 53)
