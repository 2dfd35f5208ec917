use Rattle.std.specs.Prelude.{◌≡◌, fold, pos, ◌+ℤ◌}
use Rattle.offset_core.proofs.Words.{nanos_of}
use Rattle.offset_core.proofs.time_delta.sums.sum_all_of.Given as goal

abbrev pub invariant-loop-delta : goal.invariant-loop-delta
invariant-loop-delta g l = nanos_of l.total ≡ fold (λ sum delta. sum +ℤ nanos_of delta.now) (pos 0) l.yielded
