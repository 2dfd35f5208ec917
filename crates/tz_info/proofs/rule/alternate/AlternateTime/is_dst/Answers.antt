use Rattle.tz_info.proofs.{Words.{arith, to_z-of_z}, Neighbours.{dst_by_three, ends_near, starts_near}, Neighbours.{near_fit}}
use Rattle.tz_info.proofs.rule.alternate.AlternateTime.is_dst.Goals as goal

pub returns : goal.returns
returns c = let (in_range, earlier, later, last) = near_fit _ c.requires.inside in grind (arith, to_z-of_z, dst_by_three, starts_near, ends_near)
