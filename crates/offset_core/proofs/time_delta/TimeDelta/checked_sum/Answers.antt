use Rattle.offset_core.proofs.time_delta.TimeDelta.checked_sum.Goals as goal

pub loop-delta-preserved : goal.loop-delta-preserved
loop-delta-preserved g c = c.added-total.ensures c.loop-delta.yielded c.loop-delta.invariant
