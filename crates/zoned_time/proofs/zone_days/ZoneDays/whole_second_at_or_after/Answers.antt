use Rattle.zoned_time.proofs.{Days.{zoned_first}, Words.{rules, to_z-of_z}}
use Rattle.zoned_time.proofs.zone_days.ZoneDays.whole_second_at_or_after.Goals as goal

pub returns : goal.returns
returns g c = search (rules, to_z-of_z, zoned_first)
