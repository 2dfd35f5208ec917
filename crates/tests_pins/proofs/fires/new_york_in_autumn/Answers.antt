use Rattle.tests_pins.proofs.{Words.{arith, floors, ints, neg_ℤ, pos, refl}, SetFires.{before_set, shown_after}}
use Rattle.tests_pins.proofs.fires.new_york_in_autumn.Goals as goal

pub returns : goal.returns
returns c = record {
  first_pass = λ off set. record {
    local = pos 1_636_248_600;
    planned = refl;
    first = before_set off (pos 1_636_264_800) (neg_ℤ (pos 14_400)) (neg_ℤ (pos 18_000)) (pos 1_636_248_600) (pos 1_636_263_000) set
        (omega (arith, ints), omega (arith, ints)) (omega (arith, ints)) refl;
  };
  second_pass = λ off set fire.
      let is = shown_after off (pos 1_636_264_800) (neg_ℤ (pos 14_400)) (neg_ℤ (pos 18_000)) fire.local (pos 1_636_266_600) set
      (omega (arith, ints), omega (arith, ints)) (omega (arith, ints), omega (arith, ints)) (omega (arith, ints)) fire.first in
      let planned = fire.planned in omega (arith, ints, floors, is);
}
