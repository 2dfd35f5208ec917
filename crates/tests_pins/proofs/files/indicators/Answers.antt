use Rattle.tests_pins.proofs.Words.{refl}
use Rattle.tests_pins.proofs.files.indicators.Goals as goal

pub returns-clause-wall : goal.returns-clause-wall
returns-clause-wall c agree = agree refl refl

pub returns-clause-left_out : goal.returns-clause-left_out
returns-clause-left_out c agree = agree refl refl
