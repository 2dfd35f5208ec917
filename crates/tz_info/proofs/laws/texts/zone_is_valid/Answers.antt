use Rattle.tz_info.proofs.PosixLaws.{posix_zone_valid}
use Rattle.tz_info.proofs.laws.texts.zone_is_valid.Goals as goal

pub returns : goal.returns
returns c = posix_zone_valid
