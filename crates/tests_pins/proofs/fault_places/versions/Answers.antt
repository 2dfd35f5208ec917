use Rattle.std.proofs.Common.{refl}
use Rattle.tests_pins.proofs.{Computed.{files}, FaultPlaces.{in_file}}
use Rattle.tests_pins.proofs.fault_places.versions.Goals as goal

pub returns : goal.returns
unfolding files
returns c = record {
  magic = in_file _ _ _ refl refl;
  digit_4 = in_file _ _ _ refl refl;
  digit_1 = in_file _ _ _ refl refl;
  second_magic = in_file _ _ _ refl refl;
  second_digit_4 = in_file _ _ _ refl refl;
  second_version_1 = in_file _ _ _ refl refl;
}
