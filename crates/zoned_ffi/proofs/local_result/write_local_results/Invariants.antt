use Rattle.zoned_ffi.proofs.Words.{AreWallClocks, length, take, ◌≡◌}
use Rattle.zoned_ffi.proofs.local_result.write_local_results.Given as goal

-- what is written so far
abbrev pub invariant-loop-i : goal.invariant-loop-i
invariant-loop-i l = (l.lookups ≡ l.zone) × (length l.clocks ≡ length l.locals) × AreWallClocks l.zone (take l.i l.locals) (take l.i l.clocks)
