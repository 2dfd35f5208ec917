use Rattle.std.proofs.Common.{append_assoc}
use Rattle.tests_pins.proofs.{Words.{arith, autumn, pos, refl, spring, year_start, [], ◌∷◌}, NewYorkChanges.{both_listed}}
use Rattle.tests_pins.proofs.told_zones.year_2021.Goals as goal

pub returns : goal.returns
unfolding year_start
returns c = let listed = both_listed (pos 1_609_459_200) (pos 1_640_995_200) (omega arith) (omega arith) (omega arith) (omega arith) in record {
  table = (spring ∷ autumn ∷ [], listed, refl);
  begun = (spring ∷ autumn ∷ [], listed, simp append_assoc);
  zdump = (spring ∷ autumn ∷ [], both_listed (pos 1_609_459_201) (pos 1_640_995_201) (omega arith) (omega arith) (omega arith) (omega arith), refl);
}
