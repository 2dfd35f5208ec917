use Rattle.naive_base.proofs.Words.{arith, rules, to_z-of_z}
use Rattle.naive_rrule.proofs.RuleTimes.{from_later, none_left}
use Rattle.naive_rrule.proofs.recurrence.Recurrence.first_after.Goals as goal

pub returns-then-not-is_before : goal.returns-then-not-is_before
returns-then-not-is_before c = search (rules, to_z-of_z, none_left)

pub returns : goal.returns
returns c = grind (arith, to_z-of_z, from_later)
