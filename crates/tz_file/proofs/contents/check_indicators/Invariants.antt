use Rattle.tz_base.specs.Grammar.{Each}
use Rattle.tz_file.proofs.Words.{Ok, pieces_of, read, values_below, ◌≡◌}
use Rattle.tz_file.specs.FileContents.{pair_at}
use Rattle.tz_file.proofs.contents.check_indicators.Given as goal

abbrev pub invariant-loop-k : goal.invariant-loop-k
invariant-loop-k l = read (Each l.k (pair_at (pieces_of l.pieces))) l.fn.cursor ≡ Ok (values_below l.k (λ _. tt), l.cursor)
