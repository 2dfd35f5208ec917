use Rattle.zoned_ffi.{specs.{Columns.{by_gap_end, by_offset, outside}, Units.{no_type}}, proofs.Words.{arith, inl, ints, pos, refl}}
use Rattle.zoned_ffi.proofs.pins.columns.Goals as goal

pub returns-clause-gap_end : goal.returns-clause-gap_end
returns-clause-gap_end c z choice after end = record {
  in_range = (omega arith, omega arith);
  taken = by_gap_end (pos 1_615_705_200) after end refl;
  counted = (omega arith, λ e. omega (arith, ints));
}

pub returns-clause-shifted : goal.returns-clause-shifted
returns-clause-shifted c z choice t taken is = record {
  in_range = (omega arith, omega arith);
  taken = by_offset t taken (rw is refl);
  counted = (omega arith, λ e. omega (arith, ints));
}

pub returns-clause-outside : goal.returns-clause-outside
returns-clause-outside c z choice = outside (λ inside. omega (arith, ints))

pub returns-clause-stops : goal.returns-clause-stops
returns-clause-stops c z y refused = record {
  within = omega arith;
  before = (inl (refl, refl), tt);
  time = λ e. omega (arith, ints);
  without = (refl, no_type refused);
  after = refl;
}
