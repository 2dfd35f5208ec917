use Rattle.tz_info.proofs.{LeapStarts.ArePassedBetween, Words.◌+◌}
use Rattle.tz_info.proofs.zone.lists.leap_time.passed_at.Given as goal

abbrev pub invariant-loop-count : goal.invariant-loop-count
invariant-loop-count l = ArePassedBetween l.entries l.unix_time l.first (l.first + l.count)

abbrev pub decreases-loop-count : goal.decreases-loop-count
decreases-loop-count l = l.count
