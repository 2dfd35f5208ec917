use Rattle.zoned_time.proofs.Words.{casts}
use Rattle.zoned_time.proofs.zone_days.ZoneDays.length_of_day.Goals as goal

pub returns : goal.returns
returns g c = grind casts
