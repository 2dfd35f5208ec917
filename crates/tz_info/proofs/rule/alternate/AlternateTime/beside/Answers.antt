use Rattle.tz_info.proofs.Words.{to_z-of_z, arith}
use Rattle.tz_info.proofs.rule.alternate.AlternateTime.beside.Goals as goal

pub returns-clause-found : goal.returns-clause-found
returns-clause-found c = grind (arith, to_z-of_z)
