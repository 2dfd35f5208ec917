use Rattle.tests_pins.specs.Plans.{daily}
use Rattle.tests_pins.proofs.{Words.{AreSetAt, IsFire, arith, inr, ints, neg_ℤ, pos, refl, ℤ}, SetFires.{from_set}}
use Rattle.tests_pins.proofs.fires.apia.Goals as goal

fire : (off : ℤ → ℤ) → AreSetAt off (pos 1_325_239_200) (neg_ℤ (pos 36_000)) (pos 50_400) → IsFire off (daily 32_400) (pos 1_325_239_200)
fire off set = record {
  local = pos 1_325_235_600;
  planned = refl;
  first = from_set off (pos 1_325_239_200) (neg_ℤ (pos 36_000)) (pos 50_400) (pos 1_325_235_600) (pos 1_325_239_200) set
      (omega (arith, ints), omega (arith, ints)) (omega (arith, ints)) (omega (arith, ints)) (omega (arith, ints)) (inr refl);
}

pub returns : goal.returns
returns c = record {
  at_the_end = fire;
  next = λ off set. record { fires = fire off set; after = omega (arith, ints); none_skipped = λ v _ after. omega (arith, ints, after) };
  last = λ off set. record { fires = fire off set; not_after = omega (arith, ints); none_skipped = λ v _ until. until };
  not_after_itself = λ off h. let after = h.after in omega (arith, ints, after);
}
