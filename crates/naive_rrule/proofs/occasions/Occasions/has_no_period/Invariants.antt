use Rattle.naive_base.proofs.Words.{ℕ, ◌%◌, ◌*◌, ◌<◌, ◌≡◌, floor_mod}
use Rattle.naive_rrule.specs.Steps.OccasionSteps.{HasPeriodOfDay}
use Rattle.naive_rrule.proofs.occasions.Occasions.has_no_period.Given as goal

abbrev pub invariant-loop-period : goal.invariant-loop-period
invariant-loop-period l = (k : ℕ) → k < l.period → k % l.step ≡ l.first → HasPeriodOfDay l.self.rule (floor_mod l.self.start 86_400) l.length (k * l.length) → ⊥
