use Rattle.tz_base.specs.Grammar.{Each}
use Rattle.tz_file.specs.FileContents.{indicators, type_at}
use Rattle.tests_pins.proofs.{Words.{lawful, pieces, refl, []}, Computed.{files}}
use Rattle.tests_pins.proofs.honolulu.contents.Goals as goal

pub returns : goal.returns
unfolding files
returns c = record {
  transitions = refl;
  types = (lawful (Each 6 (type_at pieces)) []).takes (_, _) refl;
  indicators = (lawful (indicators pieces) []).takes (_, _) refl;
}
