use Rattle.tz_base.specs.Grammar.{Each}
use Rattle.tz_file.proofs.Words.{Ok, pieces_of, read, vec_capacity, vec_len, ◌≡◌}
use Rattle.tz_file.specs.FileContents.{type_at}
use Rattle.tz_file.proofs.types.read_types.Given as goal

abbrev pub invariant-loop-k : goal.invariant-loop-k
invariant-loop-k l = record {
  read : read (Each l.k (type_at (pieces_of l.pieces))) l.fn.cursor ≡ Ok (l.types.items, l.cursor);
  count : vec_len l.types ≡ l.k;
  room : vec_capacity l.types ≡ l.count;
}
