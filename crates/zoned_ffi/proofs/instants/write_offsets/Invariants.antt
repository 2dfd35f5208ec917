use Rattle.zoned_ffi.proofs.Words.{AreOffsetsAt, length, take, ◌≡◌}
use Rattle.zoned_ffi.proofs.instants.write_offsets.Given as goal

-- the offsets so far
abbrev pub invariant-loop-i : goal.invariant-loop-i
invariant-loop-i l = (l.lookups ≡ l.zone) × (length l.offsets ≡ length l.instants) × AreOffsetsAt l.zone (take l.i l.instants) (take l.i l.offsets)
