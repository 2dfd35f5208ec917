use Rattle.tests_pins.proofs.Words.{refl, signed}
use Rattle.tests_pins.proofs.files.leap_seconds.Goals as goal

pub returns : goal.returns
unfolding signed
returns c = record { four_bytes = refl; eight_bytes = refl }
