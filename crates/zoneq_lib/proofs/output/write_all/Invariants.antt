use Rattle.zoneq_lib.proofs.CitedWords.{Appends, false, length, take, ◌-◌, ◌≡◌, ◌≤◌}
use Rattle.zoneq_lib.proofs.output.write_all.Given as goal

abbrev pub invariant-loop-written : goal.invariant-loop-written
invariant-loop-written g l = record {
  works : l.writer.failed ≡ false;
  within : l.written ≤ length l.bytes;
  appends : Appends (g.W.Write.contents l.fn.writer.inner) (g.W.Write.contents l.writer.inner) (take l.written l.bytes);
}

abbrev pub decreases-loop-written : goal.decreases-loop-written
decreases-loop-written g l = length l.bytes - l.written
