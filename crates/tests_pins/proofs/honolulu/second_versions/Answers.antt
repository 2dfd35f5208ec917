use Rattle.tz_info.specs.TzFiles.{tz_file, IsFileFault.{Not_spelled}, IsZoneFault.{In_file}}
use Rattle.tests_pins.proofs.{Words.{lawful, refl, []}, Computed.{files}, SpelledTexts.{never}}
use Rattle.tests_pins.proofs.honolulu.second_versions.Goals as goal

pub returns : goal.returns
unfolding files
returns c = record {
  version_1 = λ z. never (lawful tz_file _) refl (z, []);
  version_1_fault = In_file _ (Not_spelled _ ((lawful tz_file _).fails _ refl));
  digit_1 = λ z. never (lawful tz_file _) refl (z, []);
  digit_1_fault = In_file _ (Not_spelled _ ((lawful tz_file _).fails _ refl));
}
