use Rattle.naive_base.proofs.Words.{ℕ, ◌<◌, floor_mod}
use Rattle.naive_rrule.specs.RecurrenceRules.{HasSecond}
use Rattle.naive_rrule.proofs.occasions.Occasions.has_no_second.Given as goal

abbrev pub invariant-loop-second : goal.invariant-loop-second
invariant-loop-second l = (k : ℕ) → k < l.second → HasSecond l.self.rule (floor_mod l.self.start 86_400) k → ⊥
