use Rattle.zoned_time.proofs.CalendarLengths.{one_length}
use Rattle.zoned_time.proofs.laws.since.one_length.Goals as goal

pub returns : goal.returns
returns c = one_length
