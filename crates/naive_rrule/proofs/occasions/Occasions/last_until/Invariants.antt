use Rattle.naive_base.proofs.Words.{neg_ℤ, pos, unsigned_abs, ◌+ℤ◌, ◌≤ℤ◌}
use Rattle.naive_plans.proofs.ForCallers.{IsLeftBefore}
use Rattle.naive_rrule.specs.RecurrenceRules.{IsOccasion}
use Rattle.naive_rrule.proofs.occasions.Occasions.last_until.Given as goal

abbrev pub invariant-days : goal.invariant-days
invariant-days l = (neg_ℤ (pos 800_000) ≤ℤ l.day) × (l.day ≤ℤ pos 4_000_000) × IsLeftBefore (IsOccasion l.self.rule l.self.start) l.until l.day l.second

abbrev pub decreases-days : goal.decreases-days
decreases-days l = unsigned_abs (l.day +ℤ pos 800_000)
