use Rattle.tests_pins.proofs.Words.{arith, ints, pos}
use Rattle.tests_pins.proofs.policies.stretches.Goals as goal

pub returns : goal.returns
returns c = record {
  from = λ off set. record {
    not_before = omega (arith, ints);
    before = omega (arith, ints);
    same = λ u inside after before. set.from u after;
  };
  offset = λ off k set it.
      let is = it.same (pos 1_636_266_600) (omega (arith, ints), omega (arith, ints)) (omega (arith, ints)) (omega (arith, ints)) in
      let set_then = set.from (pos 1_636_266_600) (omega (arith, ints)) in omega (arith, ints, is, set_then);
  before = λ off until k set it. let late = it.before in
      let a = it.same (pos 1_636_264_799) (omega (arith, ints), omega (arith, ints)) (omega (arith, ints)) (omega (arith, ints, late)) in
      let b = it.same (pos 1_636_266_600) (omega (arith, ints), omega (arith, ints)) (omega (arith, ints)) (omega (arith, ints, late)) in
      let early = set.before (pos 1_636_264_799) (omega (arith, ints)) in let after = set.from (pos 1_636_266_600) (omega (arith, ints)) in
      omega (arith, ints, a, b, early, after);
  end = λ off from k set it. let low = it.not_before in
      let a = it.same (pos 1_636_263_000) (omega (arith, ints), omega (arith, ints)) (omega (arith, ints, low)) (omega (arith, ints)) in
      let b = it.same (pos 1_636_264_800) (omega (arith, ints), omega (arith, ints)) (omega (arith, ints, low)) (omega (arith, ints)) in
      let early = set.before (pos 1_636_263_000) (omega (arith, ints)) in let after = set.from (pos 1_636_264_800) (omega (arith, ints)) in
      omega (arith, ints, a, b, early, after);
  beyond = λ off from k it. let none = it.before in omega (arith, ints, none);
}
