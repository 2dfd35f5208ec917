use Rattle.tz_info.proofs.{Words.{arith, linear, moments_near, to_z-of_z}, Neighbours.near_fit}
use Rattle.tz_info.proofs.rule.alternate.AlternateTime.moments_near.Goals as goal

pub returns-clause-moments : goal.returns-clause-moments
unfolding moments_near
returns-clause-moments c = let (f, last, next, late) = near_fit c.args.year (omega linear) in grind (arith, to_z-of_z)
