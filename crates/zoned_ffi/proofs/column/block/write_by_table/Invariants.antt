use Rattle.zoned_ffi.proofs.Words.{AreKept, AreWritten, drop, length, take, ◌-◌, ◌≡◌, ◌≤◌}
use Rattle.zoned_ffi.proofs.column.block.write_by_table.Given as goal

-- the answers so far, and the stretches that are kept
abbrev pub invariant-loop-row : goal.invariant-loop-row
invariant-loop-row l = (length l.answers ≡ length l.times) × AreKept l.fn.question l.stretches
    × AreWritten l.fn.question (take l.row l.times) (take l.row l.answers)
    × (drop l.row l.answers ≡ drop l.row l.fn.answers) × (l.fn.from ≤ l.row) × (l.row ≤ l.to)

abbrev pub decreases-loop-row : goal.decreases-loop-row
decreases-loop-row l = l.to - l.row
