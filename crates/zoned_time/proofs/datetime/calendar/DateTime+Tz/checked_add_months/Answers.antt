use Rattle.zoned_time.proofs.Words.{numbers}
use Rattle.zoned_time.proofs.datetime.calendar.DateTime+Tz.checked_add_months.Goals as goal

pub returns-in_err-checked_add_months : goal.returns-in_err-checked_add_months
returns-in_err-checked_add_months g c = grind numbers
