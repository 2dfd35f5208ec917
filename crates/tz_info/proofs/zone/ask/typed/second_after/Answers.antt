use Rattle.tz_info.proofs.Words.{arith, ints, to_z-of_z}
use Rattle.tz_info.proofs.zone.ask.typed.second_after.Goals as goal

pub returns : goal.returns
returns c = λ z typed. grind (arith, ints, to_z-of_z)
