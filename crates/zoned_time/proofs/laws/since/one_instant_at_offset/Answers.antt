use Rattle.zoned_time.proofs.CalendarLengths.{one_at_offset}
use Rattle.zoned_time.proofs.laws.since.one_instant_at_offset.Goals as goal

pub returns : goal.returns
returns g c = λ zone. one_at_offset (g.Tz.TimeZone.law zone)
