use Rattle.tz_info.proofs.ChangeLaws.{one_type_before_gap}
use Rattle.tz_info.proofs.laws.changes.one_type_before_gap_law.Goals as goal

pub returns : goal.returns
returns c = one_type_before_gap
