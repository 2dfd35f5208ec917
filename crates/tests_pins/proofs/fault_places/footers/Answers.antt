use Rattle.std.proofs.Common.{refl}
use Rattle.tests_pins.proofs.{Computed.{files}, FaultPlaces.{in_file}}
use Rattle.tests_pins.proofs.fault_places.footers.Goals as goal

pub returns : goal.returns
unfolding files
returns c = record {
  no_newline = in_file _ _ _ refl refl;
  no_end = in_file _ _ _ refl refl;
  colon = in_file _ _ _ refl refl;
  zero = in_file _ _ _ refl refl;
  string = in_file _ _ _ refl refl;
  not_utf8 = in_file _ _ _ refl refl;
}
