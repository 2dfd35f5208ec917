use Rattle.tests_pins.proofs.{Computed.{texts}, SpelledTexts.{spelled}}
use Rattle.tests_pins.proofs.texts.clocks.Goals as goal

pub returns : goal.returns
unfolding texts
returns c = search spelled
