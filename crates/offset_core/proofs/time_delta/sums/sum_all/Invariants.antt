use Rattle.std.specs.Prelude.{◌≡◌}
use Rattle.offset_core.proofs.Words.{nanos_of, sum_of}
use Rattle.offset_core.proofs.time_delta.sums.sum_all.Given as goal

abbrev pub invariant-loop-delta : goal.invariant-loop-delta
invariant-loop-delta g l = nanos_of l.total ≡ sum_of l.yielded
