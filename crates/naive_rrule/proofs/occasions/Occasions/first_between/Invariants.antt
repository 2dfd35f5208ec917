use Rattle.naive_base.proofs.Words.{neg_ℤ, pos, unsigned_abs, ◌-ℤ◌, ◌<◌, ◌≤ℤ◌}
use Rattle.naive_rrule.specs.RecurrenceRules.{IsOccasion}
use Rattle.naive_plans.proofs.ForCallers.{IsLeft}
use Rattle.naive_rrule.proofs.occasions.Occasions.first_between.Given as goal

abbrev pub invariant-days : goal.invariant-days
invariant-days l = (neg_ℤ (pos 800_000) ≤ℤ l.day) × (l.day ≤ℤ pos 4_000_100) × IsLeft (IsOccasion l.self.rule l.self.start)
    (l.from -ℤ pos 1) l.day l.second × (l.second < 86_400)

abbrev pub decreases-days : goal.decreases-days
decreases-days l = unsigned_abs (pos 4_000_100 -ℤ l.day)
