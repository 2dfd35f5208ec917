use Rattle.tests_pins.proofs.{Words.{long_record, one_leap_second, refl, short_record, with_leap_second}, FileParts.{parts_are}}
use Rattle.tests_pins.proofs.files.leap_second_blocks.Goals as goal

pub returns : goal.returns
returns c = record {
  first = λ rest. parts_are 4 one_leap_second (with_leap_second short_record) rest refl refl refl refl refl refl refl;
  second = λ rest. parts_are 8 one_leap_second (with_leap_second long_record) rest refl refl refl refl refl refl refl;
}
