use Rattle.tz_info.proofs.PosixLaws.{fault_or_zone as text_fault_or_zone, one_zone as one_text_zone, posix_zone_valid}
use Rattle.tz_info.proofs.TzFileLaws.{fault_once, fault_or_zone as file_fault_or_zone, has_fault, one_zone as one_file_zone}
use Rattle.zoned.proofs.headline.one_zone.Goals as goal

pub returns : goal.returns
returns c = record {
  files = one_file_zone;
  file_or_fault = file_fault_or_zone;
  file_has_fault = has_fault;
  one_file_fault = fault_once;
  texts = one_text_zone;
  text_or_fault = text_fault_or_zone;
  text_is_valid = λ text z h. (posix_zone_valid text z h).0;
}
