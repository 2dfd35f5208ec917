use Rattle.naive_base.proofs.Words.{arith, rules, to_z-of_z}
use Rattle.naive_plans.proofs.ForCallers.{read_back}
use Rattle.naive_rrule.proofs.OccasionWalk.{day_from, days_between}
use Rattle.naive_rrule.proofs.occasions.Occasions.day_after.Goals as goal

pub returns-in-None-clause-none : goal.returns-in-None-clause-none
returns-in-None-clause-none c = grind (arith, to_z-of_z)

pub returns-in-Some-clause-none : goal.returns-in-Some-clause-none
returns-in-Some-clause-none c =
    let same = read_back {z = c.in-Some.start} (search rules) in
    λ d second on short later.
    let next = (rw (read_back c.ranges.day) at c.next_day-next.ensures.none) d on.date later in
    let midnight = rw (read_back (record { sfits = c.next_day-next.type_inv })) at c.seconds_of.ensures in
    let own = rw midnight at (rw (read_back (record { sfits = c.seconds_of.type_inv })) at c.in-Some.ensures) in
    let most = rw (read_back (record { sfits = c.next_day-next.type_inv }), read_back (record { sfits = c.day_of.type_inv })) at
    c.later_day.ensures.most in
    rw (read_back (record { sfits = c.later_day.type_inv })) (most d next (day_from _ _ d second (rw same at c.day_of.ensures) short
    (own.none _ on.counts (days_between _ d second next))))
