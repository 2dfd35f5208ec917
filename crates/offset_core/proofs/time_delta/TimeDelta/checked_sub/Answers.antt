use Rattle.offset_core.proofs.Words.{IsDeltaOf, arith, ints, subst}
use Rattle.offset_core.proofs.time_delta.TimeDelta.checked_sub.Goals as goal

pub returns : goal.returns
returns c = subst (λ n. IsDeltaOf n c.carried.result) (omega (arith, ints)) c.carried.ensures
