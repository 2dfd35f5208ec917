use Rattle.tests_pins.proofs.{Computed.{texts}, SpelledTexts.{not_spelled}}
use Rattle.tests_pins.proofs.texts.no_rules.Goals as goal

pub returns : goal.returns
unfolding texts
returns c = search not_spelled
