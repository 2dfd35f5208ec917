use Rattle.naive_base.proofs.Words.{ℕ, ◌<◌, get_or, pos}
use Rattle.naive_rrule.proofs.NthTimes.{around}
use Rattle.naive_rrule.specs.RecurrenceSets.{IsNth}
use Rattle.naive_rrule.proofs.occasions.Occasions.is_listed_nth.Given as goal

abbrev pub invariant-loop-position : goal.invariant-loop-position
invariant-loop-position l = (k : ℕ) → k < l.position-index
    → IsNth (around l.self.rule l.self.start l.time) (get_or l.self.rule.by_set_position.now k (pos 0)) l.time → ⊥
