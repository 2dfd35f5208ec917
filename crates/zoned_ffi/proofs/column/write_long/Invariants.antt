use Rattle.zoned_ffi.proofs.Words.{AreKept, AreWritten, drop, length, take, ◌-◌, ◌≡◌, ◌≤◌}
use Rattle.zoned_ffi.proofs.column.write_long.Given as goal

-- the answers so far, and the stretches that are kept
abbrev pub invariant-loop-from : goal.invariant-loop-from
invariant-loop-from l = (length l.answers ≡ length l.times) × AreKept l.fn.question l.stretches
    × AreWritten l.fn.question (take l.from l.times) (take l.from l.answers)
    × (drop l.from l.answers ≡ drop l.from l.fn.answers) × (l.from ≤ length l.times) × (l.fn.start ≤ l.from)

abbrev pub decreases-loop-from : goal.decreases-loop-from
decreases-loop-from l = length l.times - l.from
