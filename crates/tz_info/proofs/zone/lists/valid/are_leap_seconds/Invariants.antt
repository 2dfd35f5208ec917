use Rattle.tz_info.proofs.Words.{AllAdjacentBelow, IsNextLeap}
use Rattle.tz_info.proofs.zone.lists.valid.are_leap_seconds.Given as goal

abbrev pub invariant-loop-i : goal.invariant-loop-i
invariant-loop-i l = AllAdjacentBelow IsNextLeap l.entries l.i
