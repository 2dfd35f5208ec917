use Rattle.tz_info.proofs.{EntryChanges.begin_at, Words.arith}
use Rattle.tz_info.proofs.zone.made.segments.cut_of.Goals as goal

pub returns : goal.returns
returns c = grind (arith, begin_at)
