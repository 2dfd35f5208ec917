use Rattle.zoned_ffi.proofs.Words.{AreWritten, drop, length, take, ◌≡◌, ◌≤◌}
use Rattle.zoned_ffi.proofs.column.block.write_kept.Given as goal

-- the answers so far
abbrev pub invariant-loop-row : goal.invariant-loop-row
invariant-loop-row l = (length l.answers ≡ length l.times) × AreWritten l.fn.question (take l.row l.times) (take l.row l.answers)
    × (drop l.row l.answers ≡ drop l.row l.fn.answers) × (l.fn.from ≤ l.row)
