use Rattle.zoned_ffi.proofs.Words.{AreReached, length, take, ◌≡◌}
use Rattle.zoned_ffi.proofs.resolved.write_reached.Given as goal

-- the local times that are written so far
abbrev pub invariant-loop-i : goal.invariant-loop-i
invariant-loop-i l = (length l.reached ≡ length l.locals) × AreReached l.zone (take l.i l.locals) (take l.i l.reached)
