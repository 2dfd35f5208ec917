use Rattle.tz_search.proofs.Words.{IsNarrowedTo, digits, length, map, ℕ, ◌+◌, ◌-◌, ◌≡◌, ◌≤◌}
use Rattle.tz_search.proofs.timeline.Timeline.passed_near.Given as goal

abbrev pub invariant-loop-left : goal.invariant-loop-left
invariant-loop-left g l = record {
  near : IsNarrowedTo (map g.T.Timed.time l.self) l.second l.left;
  probed : ℕ;
  most : probed + digits (l.left.count - 1) + 1 ≤ digits (length l.self);
  counts : l.probes ≡ g.T.Timed.counted l.fn.probes probed;
}

abbrev pub decreases-loop-left : goal.decreases-loop-left
decreases-loop-left g l = l.left.count - 1
