use Rattle.tests_pins.proofs.{Computed.{texts}, SpelledTexts.{faulty, no_zone, spelled}}
use Rattle.tests_pins.proofs.texts.limits.Goals as goal

pub returns : goal.returns
unfolding texts
returns c = search (faulty, no_zone, spelled)
