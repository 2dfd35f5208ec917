use Rattle.tests_pins.proofs.{SetMoves.{first_only, none_before, second_only, stays}, Words.{arith, inl, inr, ints, pos}}
use Rattle.tests_pins.proofs.moves.noon.Goals as goal

pub returns : goal.returns
returns c = record {
  removed = first_only;
  added = second_only;
  moves = λ old new set always. inr (second_only old new set always);
  stays = stays;
  before = λ old new set always v move after. none_before old new v set always move after;
  not_before = λ old new set always none.
      let late = none (pos 1_615_737_600) (inl (first_only old new set always)) (omega (arith, ints)) in omega (arith, ints, late);
  between = λ old new set always v move after until. let late = none_before old new v set always move after in omega (arith, ints, late, until);
  not_between = λ old new set always none.
      none (pos 1_615_737_600) (inl (first_only old new set always)) (omega (arith, ints)) (omega (arith, ints));
}
