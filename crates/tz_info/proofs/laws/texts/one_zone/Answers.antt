use Rattle.tz_info.proofs.PosixLaws.{one_zone}
use Rattle.tz_info.proofs.laws.texts.one_zone.Goals as goal

pub returns : goal.returns
returns c = one_zone
