use Rattle.tz_info.proofs.Words.{AreWithin, unsigned_abs, ◌-ℤ◌}
use Rattle.tz_info.proofs.zone.time_zone.TimeZone.end_within.Given as goal

abbrev pub invariant-loop-left : goal.invariant-loop-left
invariant-loop-left l = AreWithin l.self l.from l.until l.left.low l.left.high

abbrev pub decreases-loop-left : goal.decreases-loop-left
decreases-loop-left l = unsigned_abs (l.left.high -ℤ l.left.low)
