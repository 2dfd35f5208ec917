use Rattle.tz_info.proofs.Words.{AreListedTo, TypeAt, unsigned_abs, ◌-ℤ◌}
use Rattle.tz_info.proofs.zone.time_zone.TimeZone.differences.Given as goal

abbrev pub invariant-loop-at : goal.invariant-loop-at
invariant-loop-at l = AreListedTo (TypeAt l.self) (TypeAt l.other) l.fn.from l.until l.at l.found.items

abbrev pub decreases-loop-at : goal.decreases-loop-at
decreases-loop-at l = unsigned_abs (l.until -ℤ l.at)
