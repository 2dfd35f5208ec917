use Rattle.tz_info.proofs.{SegmentEndLaws.AreMaximaOf, Words.{length, vec_capacity, vec_len, ◌≡◌}}
use Rattle.tz_info.proofs.zone.made.segment_ends.maxima_of.Given as goal

abbrev pub invariant-loop-place : goal.invariant-loop-place
invariant-loop-place l = record {
  maxima : AreMaximaOf l.types l.entries l.place l.maxima.items l.latest;
  count : vec_len l.maxima ≡ l.place;
  room : vec_capacity l.maxima ≡ length l.entries;
}
