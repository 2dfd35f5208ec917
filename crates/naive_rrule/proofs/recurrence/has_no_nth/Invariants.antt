use Rattle.std.proofs.Common.{get_or, pos, ℕ, ◌<◌, ◌≡◌}
use Rattle.naive_rrule.specs.declared.rule.NthWeekday.{NthWeekday}
use Rattle.naive_rrule.proofs.recurrence.has_no_nth.Given as goal

abbrev pub invariant-loop-entry : goal.invariant-loop-entry
invariant-loop-entry l = (k : ℕ) (d : NthWeekday) → k < l.entry-index → (get_or l.list k d).nth ≡ pos 0
