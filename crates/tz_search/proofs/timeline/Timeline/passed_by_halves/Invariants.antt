use Rattle.tz_search.proofs.Words.{IsLastOf, IsLeft, digits, length, map, option_map, ℕ, ◌+◌, ◌-◌, ◌<◌, ◌≡◌, ◌≤◌}
use Rattle.tz_search.proofs.timeline.Timeline.passed_by_halves.Given as goal

abbrev pub invariant-loop-left : goal.invariant-loop-left
invariant-loop-left g l = record {
  left : IsLeft (map g.T.Timed.time l.self) l.second l.left.first (l.left.first + l.left.count);
  latest : IsLastOf l.self l.left.first (option_map (λ r. r.now) l.left.latest);
  probed : ℕ;
  some : 0 < probed + l.left.count;
  most : probed + digits l.left.count ≤ digits (length l.self - 1);
  counts : l.probes ≡ g.T.Timed.counted l.fn.probes probed;
}

abbrev pub decreases-loop-left : goal.decreases-loop-left
decreases-loop-left g l = l.left.count
