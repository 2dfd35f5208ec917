use Rattle.std.proofs.{iter.Next.{Yields-more}, lemmas.List.Sums.{fold-append}}
use Rattle.offset_core.proofs.Words.{arith}
use Rattle.offset_core.proofs.time_delta.sums.sum_all_of.Goals as goal

pub add-total-requires : goal.add-total-requires
add-total-requires g c = grind (arith, Yields-more, fold-append)
