use Rattle.std.proofs.Common.{refl}
use Rattle.tests_pins.proofs.{Computed.{files}, FaultPlaces.{in_file}}
use Rattle.tests_pins.proofs.fault_places.ends.Goals as goal

pub returns : goal.returns
unfolding files
returns c = record {
  empty = in_file _ _ _ refl refl;
  header = in_file _ _ _ refl refl;
  block = in_file _ _ _ refl refl;
  second_header = in_file _ _ _ refl refl;
  byte_after = in_file _ _ _ refl refl;
}
