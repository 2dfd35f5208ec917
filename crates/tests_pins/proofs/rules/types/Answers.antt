use Rattle.tests_pins.proofs.{Words.{arith, floors, pos, refl, true, year_start}, NewYork.{end_2021, rule_at, start_2021}}
use Rattle.tests_pins.proofs.rules.types.Goals as goal

pub returns : goal.returns
unfolding year_start
returns c = record {
  new_year = rule_at (pos 1_609_459_200) (omega arith) (omega arith);
  before_start = rule_at (pos 1_615_705_199) (omega arith) (omega arith);
  start = record {
    year = pos 2021;
    of_second = (omega (arith, floors), omega (arith, floors));
    inside = omega arith;
    dst = true;
    when = record {
      start_first = λ _. (λ _. (pos 2021, rw start_2021 (omega arith), rw end_2021 (omega arith)), λ _. refl);
      end_first = λ less. let later = rw (start_2021, end_2021) at less in absurd (omega (arith, later));
    };
    shown = refl;
  };
  before_end = rule_at (pos 1_636_264_799) (omega arith) (omega arith);
  end = rule_at (pos 1_636_264_800) (omega arith) (omega arith);
}
