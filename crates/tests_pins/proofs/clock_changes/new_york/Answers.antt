use Rattle.tests_pins.proofs.{Words.{arith, refl}, NewYorkChanges.{autumn_is, no_change, spring_is}}
use Rattle.tests_pins.proofs.clock_changes.new_york.Goals as goal

pub returns : goal.returns
returns c = record {
  start = spring_is;
  stop = autumn_is;
  second_before = λ before after. no_change _ (omega arith) (omega arith) refl;
  second_after = λ before after. no_change _ (omega arith) (omega arith) refl;
}
