use Rattle.tz_info.proofs.Words.{arith, below_more, false≢true}
use Rattle.tz_info.proofs.file.place.first_other_leap.Goals as goal

pub loop-k-preserved : goal.loop-k-preserved
loop-k-preserved c = below_more _ _ c.loop-k.invariant (λ h. false≢true (rw c.if-is_other_leap.false at (c.is_other_leap.ensures.1 h)))

pub returns : goal.returns
returns c = λ k l. c.loop-k.invariant k (omega arith)
