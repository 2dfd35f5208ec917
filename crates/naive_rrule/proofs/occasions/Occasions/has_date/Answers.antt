use Rattle.naive_base.proofs.Words.{arith, to_z-of_z}
use Rattle.naive_rrule.proofs.occasions.Occasions.has_date.Goals as goal

pub returns : goal.returns
returns c = grind (arith, to_z-of_z)
