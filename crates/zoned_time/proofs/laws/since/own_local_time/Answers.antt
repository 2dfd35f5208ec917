use Rattle.zoned_time.proofs.CalendarLengths.{own_local}
use Rattle.zoned_time.proofs.laws.since.own_local_time.Goals as goal

pub returns-clause-itself : goal.returns-clause-itself
returns-clause-itself g c = λ zone d range at. own_local (g.Tz.TimeZone.law zone) d range at

pub returns-clause-exists : goal.returns-clause-exists
returns-clause-exists g c = λ zone d range at none. none d.utc.s (own_local (g.Tz.TimeZone.law zone) d range at).shows range
