use Rattle.tz_search.proofs.Words.{AreStepsUntil}
use Rattle.tz_search.proofs.timeline.hints.most_between.Given as goal

abbrev pub invariant-loop-i : goal.invariant-loop-i
invariant-loop-i l = AreStepsUntil l.numbers l.most l.i
