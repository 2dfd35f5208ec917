use Rattle.tz_search.proofs.{DigitLaws.{digits-less}, Words.{arith}}
use Rattle.tz_search.proofs.timeline.Timeline.passed_by_halves.Goals as goal

pub loop-left-preserved : goal.loop-left-preserved
loop-left-preserved g c = grind (arith, digits-less)
