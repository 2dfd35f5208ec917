use Rattle.zoned_ffi.{proofs.{Words.{refl}, FaultLaws.{only_valid, only_zone}}, specs.FaultPlaces.IsFaultPosition.{File_zone, String_zone}}
use Rattle.zoned_ffi.proofs.pins.fault_positions.Goals as goal

pub returns : goal.returns
returns c = record {
  file = λ bytes z h valid. File_zone z refl h valid;
  only_file = only_valid;
  zone = λ bytes z h. String_zone z refl h;
  only_zone = only_zone;
}
