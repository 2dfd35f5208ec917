use Rattle.zoned_time.proofs.DayStarts.{days_rise}
use Rattle.zoned.proofs.client_laws.days_rise.Goals as goal

pub returns : goal.returns
returns g c = λ order. days_rise _ _ _ _ _ order c.requires.start.first c.requires.end.first
