use Rattle.tz_file.specs.FileContents.{local_type}
use Rattle.tests_pins.proofs.{Words.{designations, lawful, refl}, Computed.{files}, SpelledTexts.{never}}
use Rattle.tests_pins.proofs.files.types.Goals as goal

pub returns : goal.returns
unfolding files
returns c = record {
  hst = (lawful (local_type designations) _).takes (_, _) refl;
  least_offset = λ t rest. never (lawful (local_type designations) _) refl (t, rest);
  flag_2 = λ t rest. never (lawful (local_type designations) _) refl (t, rest);
}
