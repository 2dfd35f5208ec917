use Rattle.tests_pins.proofs.{Computed.{lines}, SpelledTexts.{bad_line}}
use Rattle.tests_pins.proofs.asked_lines.bad_lines.Goals as goal

pub returns : goal.returns
unfolding lines
returns c = search bad_line
