use Rattle.zoned_ffi.{proofs.Words.{arith, ints}, specs.{Columns.{IsNoWholeSecondOf}, WholeSeconds.{IsNotFound}}}
use Rattle.zoned_ffi.proofs.pins.whole_seconds.Goals as goal

pub returns-clause-outside : goal.returns-clause-outside
returns-clause-outside c z sought =
    IsNoWholeSecondOf.not_found 23 (IsNotFound.out_of_range (λ inside. omega (arith, ints)))
