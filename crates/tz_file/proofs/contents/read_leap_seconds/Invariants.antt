use Rattle.tz_file.proofs.Words.{leap_at, pieces_of, values_below, vec_capacity, vec_len, ◌≡◌}
use Rattle.tz_file.proofs.contents.read_leap_seconds.Given as goal

abbrev pub invariant-loop-k : goal.invariant-loop-k
invariant-loop-k l = record {
  items : l.leap_seconds.items ≡ values_below l.k (leap_at (pieces_of l.pieces));
  count : vec_len l.leap_seconds ≡ l.k;
  room : vec_capacity l.leap_seconds ≡ l.count;
}
