use Rattle.tz_info.{proofs.Words.pieces_of, specs.FilePlaces.{HoldsOfNone, IsOtherIndex}}
use Rattle.tz_info.proofs.file.place.first_other_index.Given as goal

abbrev pub invariant-loop-k : goal.invariant-loop-k
invariant-loop-k l = HoldsOfNone (IsOtherIndex (pieces_of l.pieces)) l.k
