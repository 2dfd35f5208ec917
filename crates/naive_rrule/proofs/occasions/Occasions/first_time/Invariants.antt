use Rattle.std.proofs.Common.{ℕ, ◌-◌, ◌<◌, ◌≤◌}
use Rattle.naive_rrule.specs.Steps.OccasionSteps.{IsTimeOn}
use Rattle.naive_rrule.proofs.occasions.Occasions.first_time.Given as goal

abbrev pub invariant-seconds : goal.invariant-seconds
invariant-seconds l = (l.from ≤ l.second) × (l.second ≤ 86_400) × ((k : ℕ) → k < 86_400 → IsTimeOn l.self.rule l.self.start l.day k → l.from ≤ k → l.second ≤ k)

abbrev pub decreases-seconds : goal.decreases-seconds
decreases-seconds l = 86_400 - l.second
