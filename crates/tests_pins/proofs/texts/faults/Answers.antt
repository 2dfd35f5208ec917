use Rattle.tests_pins.proofs.{Computed.{texts}, SpelledTexts.{faulty, no_zone}}
use Rattle.tests_pins.proofs.texts.faults.Goals as goal

pub returns : goal.returns
unfolding texts
returns c = search (faulty, no_zone)
