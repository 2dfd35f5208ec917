use Rattle.std.proofs.Common.{refl}
use Rattle.tests_pins.proofs.{Computed.{files}, FaultPlaces.{in_file}}
use Rattle.tests_pins.proofs.fault_places.indicators.Goals as goal

pub returns : goal.returns
unfolding files
returns c = in_file _ _ _ refl refl
