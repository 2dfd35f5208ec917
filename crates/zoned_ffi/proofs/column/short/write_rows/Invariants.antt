use Rattle.zoned_ffi.proofs.Words.{AreWritten, IsKept, drop, length, take, ◌≡◌, ◌≤◌}
use Rattle.zoned_ffi.proofs.column.short.write_rows.Given as goal

-- the answers so far, and the stretch that is kept
abbrev pub invariant-loop-row : goal.invariant-loop-row
invariant-loop-row l = (length l.answers ≡ length l.times) × IsKept l.fn.question l.kept
    × AreWritten l.fn.question (take l.row l.times) (take l.row l.answers) × (drop l.row l.answers ≡ drop l.row l.fn.answers) × (l.fn.from ≤ l.row)
