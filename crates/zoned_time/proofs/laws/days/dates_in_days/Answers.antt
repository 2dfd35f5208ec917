use Rattle.zoned_time.proofs.DayStarts.{skipped}
use Rattle.zoned_time.proofs.laws.days.dates_in_days.Goals as goal

pub returns-clause-skipped : goal.returns-clause-skipped
returns-clause-skipped c = skipped
