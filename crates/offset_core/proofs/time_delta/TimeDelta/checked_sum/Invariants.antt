use Rattle.offset_core.specs.TimeDelta.{IsCheckedSum}
use Rattle.offset_core.proofs.time_delta.TimeDelta.checked_sum.Given as goal

abbrev pub invariant-loop-delta : goal.invariant-loop-delta
invariant-loop-delta g l = IsCheckedSum l.yielded l.total
