use Rattle.std.proofs.lemmas.List.Sums.{fold-append}
use Rattle.offset_core.proofs.{Words.{arith}, TimeDeltas.{sums_join, sums_split}}
use Rattle.offset_core.proofs.time_delta.sums.added.Goals as goal

pub returns : goal.returns
returns c = grind (arith, fold-append, sums_join, sums_split)
