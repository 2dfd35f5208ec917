use Rattle.tz_search.proofs.{SearchSteps.{raising_more}, timeline.hints.raise.Goals.{else-numbers-i-ne0, then-numbers-i-ne0}}
use Rattle.tz_search.proofs.timeline.hints.raise.Goals as goal

pub loop-i-preserved : goal.loop-i-preserved
loop-i-preserved c =
    raising_more _ c.loop-i.numbers c.loop-i.greatest c.loop-i.i _ c.loop-i.invariant c.loop-i-test.true c.requires (elim c.if-numbers-i-ne0.branch [
      | then-numbers-i-ne0 w ↦ ((λ z. absurd (w.if-numbers-i-ne0.true z)), (λ n. w.greatest-is))
      | else-numbers-i-ne0 w ↦ ((λ z. w.greatest-is), (λ n. absurd (n w.if-numbers-i-ne0.false)))
    ])
