use Rattle.zoned_time.proofs.Words.{casts}
use Rattle.zoned_time.proofs.zone_days.starts_of_days.Goals as goal

pub returns : goal.returns
returns g c = grind casts
