use Rattle.zoned_time.proofs.{DayEnds.{no_earlier_day}, Words.{arith}}
use Rattle.zoned_time.proofs.zone_days.start_of_earlier_day.Goals as goal

pub returns-in_err-checked_sub_days : goal.returns-in_err-checked_sub_days
returns-in_err-checked_sub_days g c = grind (arith, no_earlier_day)
