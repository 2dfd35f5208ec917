use Rattle.zoned_ffi.proofs.Words.{AreWrittenTypesAt, length, take, ◌≡◌}
use Rattle.zoned_ffi.proofs.local_type.write_types.Given as goal

-- what is written so far
abbrev pub invariant-loop-i : goal.invariant-loop-i
invariant-loop-i l = (l.lookups ≡ l.zone) × (length l.types ≡ length l.instants) × AreWrittenTypesAt l.zone (take l.i l.instants) (take l.i l.types)
