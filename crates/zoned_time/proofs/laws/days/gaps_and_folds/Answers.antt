use Rattle.zoned_time.proofs.DayEnds.{first_of_fold, first_of_one, gap_end, not_later}
use Rattle.zoned_time.proofs.laws.days.gaps_and_folds.Goals as goal

pub returns : goal.returns
returns c = record { once = first_of_one; fold = first_of_fold; gap = gap_end; not_later = not_later }
