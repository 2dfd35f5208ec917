use Rattle.zoned_time.proofs.Once.{one_relocal}
use Rattle.zoned_time.proofs.laws.one_relocal.Goals as goal

pub returns : goal.returns
returns g c = λ zone l a b h k. one_relocal g.met.Tz.TimeZone.told (g.Tz.TimeZone.law zone) l a b h k
