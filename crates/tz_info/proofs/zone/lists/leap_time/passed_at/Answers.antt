use Rattle.tz_info.proofs.{LeapStarts.passed_at_most, Words.arith}
use Rattle.tz_info.proofs.zone.lists.leap_time.passed_at.Goals as goal

pub loop-count-init : goal.loop-count-init
loop-count-init c = omega (arith, passed_at_most)
