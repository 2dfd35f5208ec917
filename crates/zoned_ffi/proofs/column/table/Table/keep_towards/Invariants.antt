use Rattle.zoned_ffi.proofs.Words.{AreKept}
use Rattle.zoned_ffi.proofs.column.table.Table.keep_towards.Given as goal

-- the stretches that are kept
abbrev pub invariant-loop : goal.invariant-loop
invariant-loop l = AreKept l.fn.question l.stretches
