use Rattle.naive_base.proofs.Words.{arith, to_z-of_z}
use Rattle.naive_rrule.proofs.OccasionsBack.{with_date_back}
use Rattle.naive_rrule.proofs.occasions.Occasions.last_on.Goals as goal

pub returns : goal.returns
returns c = grind (arith, to_z-of_z, with_date_back)

pub returns-then-not-has_date : goal.returns-then-not-has_date
returns-then-not-has_date c = grind (arith, to_z-of_z)
