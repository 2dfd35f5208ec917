use Rattle.std.proofs.Common.{◌-◌, ◌≤◌}
use Rattle.naive_rrule.specs.RecurrenceSets.{IsRuleTime}
use Rattle.naive_rrule.proofs.Counted.{IsCountedTo}
use Rattle.naive_rrule.proofs.recurrence.last_of.Given as goal

abbrev pub invariant-times : goal.invariant-times
invariant-times l = (l.counted ≤ l.count) × IsCountedTo (IsRuleTime l.of.rule l.of.start) l.of.start l.counted l.last

abbrev pub decreases-times : goal.decreases-times
decreases-times l = l.count - l.counted
