use Rattle.std.proofs.Common.{refl}
use Rattle.tests_pins.proofs.Computed.{texts}
use Rattle.tests_pins.proofs.texts.fault_places.Goals as goal

pub returns : goal.returns
unfolding texts
returns c = record {
  month = λ _. refl;
  week = λ _. refl;
  weekday = λ _. refl;
  hours = λ _. refl;
  name = λ _. refl;
  offset_left_out = λ _. refl;
  no_dot = λ _. refl;
  bytes_after = λ _. refl;
  end = λ _. refl;
}
