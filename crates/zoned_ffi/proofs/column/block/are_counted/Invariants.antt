use Rattle.zoned_ffi.proofs.Words.{AreKeptTimes, ◌+◌, ◌≡◌, ◌≤◌}
use Rattle.zoned_ffi.proofs.column.block.are_counted.Given as goal

-- as many rows so far at most, and all of them only if the stretch has them
abbrev pub invariant-loop-row : goal.invariant-loop-row
invariant-loop-row l = (l.found + l.from ≤ l.row) × (l.found + l.from ≡ l.row → AreKeptTimes l.times l.from l.row l.kept)
