use Rattle.tz_info.proofs.ShownSecondLaws.{ordinary}
use Rattle.tz_info.proofs.laws.shown_seconds.ordinary_length_law.Goals as goal

pub returns : goal.returns
returns c = ordinary
