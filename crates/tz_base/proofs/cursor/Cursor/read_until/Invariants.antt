use Rattle.std.proofs.Common.{length, ◌-◌, ℕ, false, get_or, ◌≤◌, ◌<◌}
use Rattle.std.specs.Fn.{FnReturnsAt}
use Rattle.tz_base.proofs.cursor.Cursor.read_until.Given as goal

abbrev pub invariant-loop-n : goal.invariant-loop-n
invariant-loop-n g l = record {
  within : l.n ≤ length l.bytes;
  passed : (k : ℕ) → k < l.n → FnReturnsAt g.F.Fn l.f (get_or l.bytes k 0) false;
}

abbrev pub decreases-loop-n : goal.decreases-loop-n
decreases-loop-n g l = length l.bytes - l.n
