use Rattle.zoned_time.proofs.{Relocals.{relocal_shown, shown_by}, Words.{arith}}
use Rattle.zoned_time.proofs.laws.local_times_come_back.Goals as goal

pub returns : goal.returns
returns g c = grind (arith, shown_by, relocal_shown)
