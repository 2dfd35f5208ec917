use Rattle.std.proofs.Common.{refl}
use Rattle.tests_pins.proofs.{Computed.{files}, FaultPlaces.{in_file}}
use Rattle.tests_pins.proofs.fault_places.counts.Goals as goal

pub returns : goal.returns
unfolding files
returns c = record {
  ut_local = in_file _ _ _ refl refl;
  standard_wall = in_file _ _ _ refl refl;
  types = in_file _ _ _ refl refl;
  designations = in_file _ _ _ refl refl;
}
