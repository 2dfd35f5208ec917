use Rattle.tz_file.specs.FileContents.{local_type}
use Rattle.tests_pins.proofs.{Words.{designations, lawful, refl}, Computed.{files}}
use Rattle.tests_pins.proofs.files.type_faults.Goals as goal

pub returns : goal.returns
unfolding files
returns c = record {
  flag = (lawful (local_type designations) _).fails _ refl;
  not_offset = λ fault. let e = (lawful (local_type designations) _).refuses _ fault in cc;
}
