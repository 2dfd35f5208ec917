use Rattle.tz_info.proofs.Words.{pieces_of, transition_at, values_below, vec_capacity, vec_len, length, ◌≡◌}
use Rattle.tz_info.proofs.file.reader.read_transitions.Given as goal

abbrev pub invariant-loop-k : goal.invariant-loop-k
invariant-loop-k l = record {
  items : l.transitions.items ≡ values_below l.k (transition_at (pieces_of l.pieces));
  count : vec_len l.transitions ≡ l.k;
  room : vec_capacity l.transitions ≡ length l.type_indexes;
}
