use Rattle.tz_info.proofs.Words.{length, take, vec_capacity, vec_len, ◌≡◌}
use Rattle.tz_info.proofs.zone.lists.kept.all_kept.Given as goal

abbrev pub invariant-loop-transition : goal.invariant-loop-transition
invariant-loop-transition l = record {
  all : l.all.items ≡ take l.transition-index l.transitions;
  count : vec_len l.all ≡ l.transition-index;
  room : vec_capacity l.all ≡ length l.transitions;
}
