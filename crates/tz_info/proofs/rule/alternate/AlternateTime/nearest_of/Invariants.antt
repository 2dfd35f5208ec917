use Rattle.tz_info.proofs.Words.{IsNearestMomentOf, IsOneOf}
use Rattle.tz_info.proofs.rule.alternate.AlternateTime.nearest_of.Given as goal

abbrev pub invariant-loop-second : goal.invariant-loop-second
invariant-loop-second l = IsNearestMomentOf l.forward l.self (IsOneOf l.seconds l.second-index l.stretch.after l.stretch.last) l.found
