use Rattle.tz_info.proofs.Words.{arith, to_z-of_z}
use Rattle.tz_info.proofs.rule.alternate.AlternateTime.nearest_moment.Goals as goal

pub returns-clause-nearest : goal.returns-clause-nearest
returns-clause-nearest c = grind (arith, to_z-of_z)
