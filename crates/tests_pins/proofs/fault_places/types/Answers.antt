use Rattle.std.proofs.Common.{refl}
use Rattle.tests_pins.proofs.{Computed.{files}, FaultPlaces.{in_file}}
use Rattle.tests_pins.proofs.fault_places.types.Goals as goal

pub returns : goal.returns
unfolding files
returns c = record {
  offset = in_file _ _ _ refl refl;
  flag = in_file _ _ _ refl refl;
  flag_first = in_file _ _ _ refl refl;
  designation = in_file _ _ _ refl refl;
  second = in_file _ _ _ refl refl;
}
