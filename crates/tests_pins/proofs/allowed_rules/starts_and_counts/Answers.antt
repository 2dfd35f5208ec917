use Rattle.tests_pins.proofs.{Words.{arith, ints}, Computed.{calendar}}
use Rattle.tests_pins.proofs.allowed_rules.starts_and_counts.Goals as goal

pub returns : goal.returns
unfolding calendar
returns c = record {
  year_0 = λ h. h (omega (arith, ints), omega (arith, ints));
  before = λ h. omega (arith, ints, h);
  year_9999 = λ h. h (omega (arith, ints), omega (arith, ints));
  after = λ h. omega (arith, ints, h);
  interval_0 = search arith;
  count_0 = λ h. h;
}
