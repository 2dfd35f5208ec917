use Rattle.zoned_ffi.{proofs.Words.{arith, ints}, specs.WholeSeconds.{IsNoDayAt}}
use Rattle.zoned_ffi.proofs.pins.days.Goals as goal

pub returns-clause-outside : goal.returns-clause-outside
returns-clause-outside c z = IsNoDayAt.out_of_range (λ inside. omega (arith, ints))
