use Rattle.tests_pins.proofs.{Words.{arith}, LeapSeconds.{leap_time}}
use Rattle.tests_pins.proofs.leap_seconds.leap_times.Goals as goal

pub returns : goal.returns
returns c = search (leap_time, arith)
