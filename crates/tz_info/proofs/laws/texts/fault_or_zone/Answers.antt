use Rattle.tz_info.proofs.PosixLaws.{fault_or_zone, one_posix_fault, posix_low}
use Rattle.tz_info.proofs.laws.texts.fault_or_zone.Goals as goal

pub returns : goal.returns
returns c = record { apart = fault_or_zone; once = one_posix_fault; low = posix_low }
