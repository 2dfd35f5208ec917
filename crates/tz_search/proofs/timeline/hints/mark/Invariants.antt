use Rattle.tz_search.proofs.Words.{AreMarked, length, map, ◌≡◌}
use Rattle.tz_search.proofs.timeline.hints.mark.Given as goal

abbrev pub invariant-loop-place : goal.invariant-loop-place
invariant-loop-place g l = record {
  marked : AreMarked (map g.T.Timed.time l.items) l.first l.shift l.place l.places;
  count : length l.places ≡ length l.fn.places;
}
