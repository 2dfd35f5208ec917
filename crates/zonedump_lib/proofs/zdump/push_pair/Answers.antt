use Rattle.zonedump_lib.proofs.{CitedWords.{arith, on_ok_weaker, to_z-of_z}, LineLaws.{pair_told, second_fits}}
use Rattle.zonedump_lib.proofs.zdump.push_pair.Goals as goal

pub returns : goal.returns
returns c = grind (arith, second_fits, to_z-of_z, on_ok_weaker, pair_told)
