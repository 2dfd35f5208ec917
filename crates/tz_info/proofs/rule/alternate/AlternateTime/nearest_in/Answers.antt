use Rattle.tz_info.proofs.Words.{arith, to_z-of_z}
use Rattle.tz_info.proofs.rule.alternate.AlternateTime.nearest_in.Goals as goal

pub returns-else-is_calm : goal.returns-else-is_calm
returns-else-is_calm c = grind (arith, to_z-of_z)
