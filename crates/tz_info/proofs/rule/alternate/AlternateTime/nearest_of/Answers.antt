use Rattle.tz_info.proofs.{ChangeSearch.nearest_more, Words.{arith, to_z-of_z}}
use Rattle.tz_info.proofs.rule.alternate.AlternateTime.nearest_of.Goals as goal

pub loop-second-preserved : goal.loop-second-preserved
loop-second-preserved c = grind (arith, to_z-of_z, nearest_more)
