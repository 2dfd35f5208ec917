use Rattle.tests_pins.proofs.{Words.{lawful, refl}, Computed.{files}, SpelledTexts.{never}}
use Rattle.tz_file.specs.FileContents.{mark}
use Rattle.tests_pins.proofs.files.flags.Goals as goal

pub returns : goal.returns
unfolding files
returns c = record {
  standard = (lawful mark _).takes (_, _) refl;
  daylight = (lawful mark _).takes (_, _) refl;
  other = λ dst rest. never (lawful mark _) refl (dst, rest);
}
