use Rattle.std.proofs.Common.{get_or, ℕ, ℤ, ◌<◌}
use Rattle.naive_rrule.specs.Steps.PositionSteps.{IsBeyond}
use Rattle.naive_rrule.proofs.positions.are_beyond.Given as goal

abbrev pub invariant-loop-position : goal.invariant-loop-position
invariant-loop-position l = (k : ℕ) (d : ℤ) → k < l.position-index → IsBeyond l.count (get_or l.positions k d)
