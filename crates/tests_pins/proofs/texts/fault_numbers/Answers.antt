use Rattle.tests_pins.proofs.{Computed.{texts}, SpelledTexts.{faulty}}
use Rattle.tests_pins.proofs.texts.fault_numbers.Goals as goal

pub returns : goal.returns
unfolding texts
returns c = search faulty
