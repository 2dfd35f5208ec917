use Rattle.tz_info.proofs.{LeapStarts.{AreRefusedAfter, correction_after}, Words.◌≡◌}
use Rattle.tz_info.proofs.zone.lists.leap_seconds.last_with_leap_time.Given as goal

abbrev pub invariant-loop-entry : goal.invariant-loop-entry
invariant-loop-entry l = record {
  refused : AreRefusedAfter l.entries l.entry-index l.last;
  before : l.before ≡ correction_after l.entries l.entry-index;
}
