use Rattle.tz_info.{proofs.Words.{unsigned_abs, ◌-ℤ◌}, specs.Steps.Folds.IsBackTo}
use Rattle.tz_info.proofs.zone.time_zone.TimeZone.change_back.Given as goal

abbrev pub invariant-loop-at : goal.invariant-loop-at
invariant-loop-at l = IsBackTo l.self l.local l.first l.last l.end

abbrev pub decreases-loop-at : goal.decreases-loop-at
decreases-loop-at l = unsigned_abs (l.end -ℤ l.first)
