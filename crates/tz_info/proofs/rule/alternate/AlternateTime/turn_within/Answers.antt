use Rattle.tz_info.proofs.{CalmYears.turn_change, Words.{arith, to_z-of_z}}
use Rattle.tz_info.proofs.rule.alternate.AlternateTime.turn_within.Goals as goal

pub returns-then-has : goal.returns-then-has
returns-then-has c = grind (arith, to_z-of_z, turn_change)

pub returns-else-has : goal.returns-else-has
returns-else-has c = grind (arith, to_z-of_z)
