use Rattle.naive_base.proofs.Words.{arith, to_z-of_z}
use Rattle.naive_rrule.proofs.RuleTimes.{next_later}
use Rattle.naive_rrule.proofs.recurrence.RecurrencePlan.next_after.Goals as goal

pub returns-in-Some : goal.returns-in-Some
returns-in-Some c = grind (arith, to_z-of_z, next_later)
