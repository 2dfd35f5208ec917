use Rattle.zoned_ffi.proofs.Words.{AreResolved, length, take, ◌≡◌}
use Rattle.zoned_ffi.proofs.resolved.write_resolved.Given as goal

-- what is written so far
abbrev pub invariant-loop-i : goal.invariant-loop-i
invariant-loop-i l = (l.lookups ≡ l.zone) × (length l.resolved ≡ length l.locals) × AreResolved l.zone l.choice (take l.i l.locals) (take l.i l.resolved)
