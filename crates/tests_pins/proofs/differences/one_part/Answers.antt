use Rattle.tests_pins.proofs.{Words.{LocalType, None, Some, ap, arith, false≢true, get_or, ℕ}, SetTypes.{no_difference, one_difference}}
use Rattle.tests_pins.specs.Changes.{cet, dst_cet, renamed}
use Rattle.tests_pins.proofs.differences.one_part.Goals as goal

first_byte : LocalType → ℕ
first_byte t = elim t.name [ None ↦ 0 | Some name ↦ get_or name 0 0 ]

pub returns : goal.returns
unfolding first_byte
returns c = record {
  flag = one_difference cet dst_cet (λ e. false≢true (ap (λ (t : LocalType). t.dst) e));
  name = one_difference cet renamed (λ e. let first = ap first_byte e in omega (arith, first));
  same = no_difference cet;
}
