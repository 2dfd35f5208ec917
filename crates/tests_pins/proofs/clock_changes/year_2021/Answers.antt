use Rattle.tests_pins.proofs.{Words.{arith, pos, spring}, NewYorkChanges.{both_listed, not_spring_alone, until_autumn}}
use Rattle.tests_pins.proofs.clock_changes.year_2021.Goals as goal

pub returns : goal.returns
returns c = record {
  year = both_listed (pos 1_609_459_200) (pos 1_640_995_200) (omega arith) (omega arith) (omega arith) (omega arith);
  ends = until_autumn;
  backwards = λ h. let rise = h.rising 0 1 spring (omega arith) (omega arith) in absurd (omega (arith, rise));
  one_left_out = not_spring_alone;
}
