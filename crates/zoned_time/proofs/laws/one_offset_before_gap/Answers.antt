use Rattle.zoned_time.proofs.Once.{one_before_gap}
use Rattle.zoned_time.proofs.laws.one_offset_before_gap.Goals as goal

pub returns : goal.returns
returns g c = λ zone l j k. one_before_gap (g.Tz.TimeZone.law zone).off l j k
