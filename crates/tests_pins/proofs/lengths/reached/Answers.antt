use Rattle.tests_pins.proofs.Words.{arith, ints, of_secs, pos}
use Rattle.tests_pins.proofs.lengths.reached.Goals as goal

pub returns-clause-past : goal.returns-clause-past
returns-clause-past c = λ off set.
    let is = set.before (pos 1_636_264_799) (omega (arith, ints)) in record {
      nanoseconds = omega arith;
      instant = of_secs (pos 1_636_264_799) 0;
      from = record { in_zone = (omega (arith, ints), omega (arith, ints)); not_before = λ early. grind (arith, ints) };
      not_after = λ early. grind (arith, ints);
    }
