use Rattle.tests_pins.proofs.{Words.{arith, fits_signed_from_abs, inl, inr, ints, pos, refl, w64}, NewYork.{by_dst, never, once, second_of, type_at}}
use Rattle.tests_pins.proofs.NewYorkChanges.{before_gap, only_before_gap}
use Rattle.tests_pins.proofs.wall_clocks.gap.Goals as goal

pub returns : goal.returns
returns c = record {
  before = record {
    second = pos 1_615_705_199;
    shown = record {
      fits = fits_signed_from_abs w64 (pos 1_615_705_199) (omega arith);
      type = type_at (pos 1_615_705_199) (omega arith) (omega arith);
      shown = refl;
    };
    only = λ u t s.
        let r = s.type.in_force.from_last refl in let either = by_dst u (pos 1_615_687_199) t r.dst r.shown s.shown in
        let is = second_of (pos 1_615_687_199) u t (omega (arith, ints, either)) (omega (arith, ints, either)) s in
        elim either [ inl at ↦ let e = rw at at is in absurd (omega (arith, ints, e)) | inr at ↦ at ];
  };
  first = never (pos 1_615_687_200) refl (omega arith) (omega arith);
  half_past_two = never (pos 1_615_689_000) refl (omega arith) (omega arith);
  last = never (pos 1_615_690_799) refl (omega arith) (omega arith);
  after = once (pos 1_615_690_800) _ refl (omega arith) (omega arith);
  type_before = before_gap;
  no_other_before = only_before_gap;
}
