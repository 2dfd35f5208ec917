use Rattle.naive_base.proofs.Words.{arith, to_z-of_z}
use Rattle.naive_plans.proofs.ForCallers.{read_back}
use Rattle.naive_rrule.proofs.RuleTimes.{count_last, never_last, until_last}
use Rattle.naive_rrule.proofs.recurrence.last_second.Goals as goal

pub returns-in-Never : goal.returns-in-Never
returns-in-Never c = grind (arith, to_z-of_z, never_last)

pub returns-in-Until : goal.returns-in-Until
returns-in-Until c = grind (arith, to_z-of_z, until_last)

pub returns-in-Count : goal.returns-in-Count
returns-in-Count c = rw (c.in-Count.is, read_back (record { sfits = c.last_of.type_inv }))
    (count_last c.last_of.ensures.last c.last_of.ensures.bound)
