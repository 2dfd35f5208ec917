use Rattle.tz_info.{proofs.Words.pieces_of, specs.FilePlaces.{HoldsOfNone, IsNotLater}}
use Rattle.tz_info.proofs.file.place.first_not_later.Given as goal

abbrev pub invariant-loop-k : goal.invariant-loop-k
invariant-loop-k l = HoldsOfNone (IsNotLater (pieces_of l.pieces)) l.k
