use Rattle.tz_write.proofs.{FileWritten.pushed_next, Words.arith}
use Rattle.tz_write.proofs.file.contents.push_times.Goals as goal

pub loop-place-preserved : goal.loop-place-preserved
loop-place-preserved c =
    pushed_next _ _ (grind arith) (c.transition.ensures c.transition.result) c.loop-place.invariant
    c.in_ok-push_transition_time.ensures.appended c.in_ok-push_transition_time.ensures.sound
