use Rattle.std.proofs.Common.{arith, refl}
use Rattle.tests_pins.proofs.texts.placed_errors.Goals as goal

pub returns : goal.returns
returns c = record {
  there = (λ m. absurd (omega (arith, m)), refl);
  elsewhere = λ h. absurd (omega (arith, h.1));
  nowhere = λ h. absurd (omega (arith, h));
  memory = refl;
  memory_there = λ h. h.0 refl;
}
