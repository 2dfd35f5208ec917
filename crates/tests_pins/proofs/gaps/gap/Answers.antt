use Rattle.tests_pins.proofs.{Words.{arith, est, pos, refl, sym}, NewYork.{once, one_type, wall}, NewYorkChanges.{apart, gap}}
use Rattle.tests_pins.proofs.gaps.gap.Goals as goal

pub returns : goal.returns
returns c = record {
  half_past_two = gap;
  not_first = λ h. apart (sym (one_type (pos 1_615_705_199) _ (omega arith) (omega arith) h.here));
  not_shown = λ h. gap.never h.0 h.1 h.2;
  before = wall (pos 1_615_687_199) (omega arith) (omega arith);
  shown = let one = once (pos 1_615_687_199) est refl (omega arith) (omega arith) in (one.second, est, one.shown);
}
