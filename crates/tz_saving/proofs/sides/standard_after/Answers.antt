use Rattle.tz_saving.proofs.{SideLaws.after_of_rule, Words.to_z-of_z}
use Rattle.tz_saving.proofs.sides.standard_after.Goals as goal

pub returns-in-None : goal.returns-in-None
returns-in-None c = after_of_rule _ _ _ (simp (to_z-of_z, c.ranges.second) at c.in-None.ensures) c.rule_standard.ensures
