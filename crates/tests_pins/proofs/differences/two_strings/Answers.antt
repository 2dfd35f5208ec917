use Rattle.std.specs.Prelude.{◌≢◌}
use Rattle.tests_pins.proofs.{Words.{LocalType, ap, arith, ints, pos, refl}, SetTypes.{one_difference}}
use Rattle.tests_pins.specs.Differences.{five_ahead, hour_of, six_ahead}
use Rattle.tests_pins.proofs.differences.two_strings.Goals as goal

apart : six_ahead ≢ five_ahead
apart e = let offsets = ap (λ (t : LocalType). t.offset) e in absurd (omega (arith, ints, offsets))

pub returns : goal.returns
returns c = record {
  hour = one_difference six_ahead five_ahead apart;
  exchanged = λ h. let at = h.each (pos 1_709_229_600) (omega (arith, ints)) (omega (arith, ints)) in
      let offsets = ap (λ (t : LocalType). t.offset) at.0 in absurd (omega (arith, ints, offsets));
  shorter = λ h. h.begins (omega (arith, ints)) refl refl;
  ends_early = λ h. h.ends (omega (arith, ints)) refl refl;
  twice = λ h. let less = h.rising 0 1 (hour_of six_ahead five_ahead) (omega arith) (omega arith) in absurd (omega (arith, ints, less));
  none = λ h. let found = h.covered (pos 1_709_229_600) six_ahead five_ahead (omega (arith, ints)) (omega (arith, ints)) refl refl apart in
      let less = found.1.1 in absurd (omega (arith, less));
}
