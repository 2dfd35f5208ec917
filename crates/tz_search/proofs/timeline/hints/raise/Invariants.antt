use Rattle.tz_search.proofs.SearchSteps.{Raising}
use Rattle.tz_search.proofs.timeline.hints.raise.Given as goal

abbrev pub invariant-loop-i : goal.invariant-loop-i
invariant-loop-i l = Raising l.fn.numbers l.numbers l.greatest l.i
