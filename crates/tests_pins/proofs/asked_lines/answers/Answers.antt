use Rattle.tests_pins.proofs.{Words.{arith, digits, edt, est, inl, pos, refl}, NewYork.{type_at, wall}}
use Rattle.offset_core.specs.declared.local_result.LocalResult.TheVariants as results
use Rattle.tests_pins.proofs.asked_lines.answers.Goals as goal

pub returns : goal.returns
unfolding digits
returns c = record {
  instant = inl (edt, type_at (pos 1_615_705_200) (omega arith) (omega arith), refl);
  gap = (results.None, wall (pos 1_615_689_000) (omega arith) (omega arith), refl);
  fold = (results.Ambiguous edt est, wall (pos 1_636_248_600) (omega arith) (omega arith), refl);
  no_zone = refl;
  no_zone_yet = refl;
}
