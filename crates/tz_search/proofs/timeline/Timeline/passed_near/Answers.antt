use Rattle.tz_search.proofs.{SearchSteps.{digits-halved, near_one, two_steps}, Words.{arith}}
use Rattle.tz_search.proofs.timeline.Timeline.passed_near.Goals.{else-left-gt1, then-left-gt1+else-left-gt1-2, then-left-gt1+then-left-gt1-2}
use Rattle.tz_search.proofs.timeline.Timeline.passed_near.Goals as goal

pub loop-left-init : goal.loop-left-init
loop-left-init g c =
    let most = two_steps _ c.narrowed-left.result.count _ c.requires.near.some c.requires.narrow c.requires.many (omega arith) in
    elim c.if-left-gt1.branch [
      | then-left-gt1+then-left-gt1-2 w ↦ record { near = grind arith; probed = 4; most = grind (arith, digits-halved); counts = grind arith }
      | then-left-gt1+else-left-gt1-2 w ↦ record { near = grind arith; probed = 3; most = grind (arith, digits-halved); counts = grind arith }
      | else-left-gt1 w ↦ record { near = grind arith; probed = 2; most = grind arith; counts = grind arith }
    ]

pub loop-left-preserved : goal.loop-left-preserved
loop-left-preserved g c = grind (arith, digits-halved)

pub returns-clause-passed : goal.returns-clause-passed
returns-clause-passed g c = grind (arith, near_one)
