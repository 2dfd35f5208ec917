use Rattle.tz_saving.proofs.{SideLaws.standard_is, Words.to_z-of_z}
use Rattle.tz_saving.proofs.sides.nearest_standard.Goals as goal

pub returns : goal.returns
returns c = rw c.far_offset.ensures
    (standard_is _ c.valid_law.ensures.valid c.valid_law.ensures.rule _ c.requires _ _ (simp (to_z-of_z, c.ranges.second) at c.nearest_turn.ensures))
