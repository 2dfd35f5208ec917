use Rattle.tz_info.specs.TzFiles.{tz_file, IsFileFault.{Not_spelled}, IsZoneFault.{In_file}}
use Rattle.tests_pins.proofs.{Words.{lawful, refl, []}, Computed.{files}, SpelledTexts.{never}}
use Rattle.tests_pins.proofs.honolulu.version_1.Goals as goal

pub returns : goal.returns
unfolding files
returns c = record {
  spells = (lawful tz_file _).takes (_, _) refl;
  byte_after = λ b z. never (lawful tz_file _) refl (z, []);
  byte_after_fault = λ b. In_file _ (Not_spelled _ ((lawful tz_file _).fails _ refl));
}
