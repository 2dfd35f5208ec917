use Rattle.naive_base.proofs.Words.{get_or, ℕ, ◌<◌}
use Rattle.naive_rrule.specs.{RecurrenceRules.{IsEntry}, declared.rule.NthWeekday.{NthWeekday}}
use Rattle.naive_rrule.proofs.rule.lists_weekday.Given as goal

abbrev pub invariant-loop-entry : goal.invariant-loop-entry
invariant-loop-entry l = (k : ℕ) (e : NthWeekday) → k < l.entry-index → IsEntry l.weekday l.before l.after (get_or l.part k e) → ⊥
