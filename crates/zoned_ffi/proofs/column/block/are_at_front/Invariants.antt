use Rattle.zoned_ffi.proofs.Words.{AreKeptTimes, ◌<◌}
use Rattle.zoned_ffi.proofs.column.block.are_at_front.Given as goal

-- if the bits so far make less than the length of the stretch, it has the rows so far
abbrev pub invariant-loop-row : goal.invariant-loop-row
invariant-loop-row l = l.bits < l.kept.length → AreKeptTimes l.times l.from l.row l.kept
