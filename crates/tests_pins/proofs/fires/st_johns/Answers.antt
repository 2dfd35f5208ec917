use Rattle.tests_pins.proofs.{Words.{arith, ints, neg_ℤ, pos}, SetFires.{in_fold, only_in_fold}}
use Rattle.tests_pins.proofs.fires.st_johns.Goals as goal

pub returns : goal.returns
returns c = record {
  reached = λ off set. in_fold off (pos 1_130_639_460) (neg_ℤ (pos 9_000)) (neg_ℤ (pos 12_600)) (pos 1_130_641_320) set
      (omega (arith, ints), omega (arith, ints)) (omega (arith, ints)) (omega (arith, ints));
  only = λ off l set h. only_in_fold off (pos 1_130_639_460) (neg_ℤ (pos 9_000)) (neg_ℤ (pos 12_600)) (pos 1_130_641_320) l set
      (omega (arith, ints), omega (arith, ints)) (omega (arith, ints)) (omega (arith, ints)) h;
}
