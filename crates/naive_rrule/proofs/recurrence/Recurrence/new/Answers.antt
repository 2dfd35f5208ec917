use Rattle.naive_base.proofs.Words.{arith, to_z-of_z}
use Rattle.naive_rrule.proofs.RuleTimes.{has_times}
use Rattle.naive_rrule.proofs.recurrence.Recurrence.new.Goals as goal

pub returns : goal.returns
returns c = grind (arith, to_z-of_z, has_times)
