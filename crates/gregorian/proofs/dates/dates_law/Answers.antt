use Rattle.gregorian.proofs.DateLaws.{date_is, date_only, date_lies}
use Rattle.gregorian.proofs.dates.dates_law.Goals as goal

pub returns : goal.returns
returns c = record { found = date_is; once = date_only; lies = date_lies }
