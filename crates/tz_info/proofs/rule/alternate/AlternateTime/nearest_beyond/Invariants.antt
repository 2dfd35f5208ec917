use Rattle.tz_info.proofs.Words.{AreFrom, year_at}
use Rattle.tz_info.proofs.rule.alternate.AlternateTime.nearest_beyond.Given as goal

abbrev pub invariant-loop-step : goal.invariant-loop-step
invariant-loop-step l = AreFrom l.self l.forward l.first (year_at l.forward l.first l.step)
