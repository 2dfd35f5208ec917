use Rattle.tests_pins.proofs.{Words.{arith, ints, lawful}, Computed.{files}, SpelledTexts.{never}}
use Rattle.tests_pins.proofs.files.versions.Goals as goal

pub returns : goal.returns
unfolding files
returns c = grind (arith, ints, lawful, never)
