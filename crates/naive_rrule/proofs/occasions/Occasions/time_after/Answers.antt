use Rattle.naive_base.proofs.Words.{rules}
use Rattle.naive_plans.proofs.ForCallers.{read_back}
use Rattle.naive_rrule.proofs.NthTimes.{after_in_period, none_after}
use Rattle.naive_rrule.proofs.occasions.Occasions.time_after.Goals as goal

pub returns-in-None : goal.returns-in-None
returns-in-None c =
    let from = rw (read_back c.ranges.time) at c.second_after.ensures in
    let end = rw (read_back c.ranges.time) at c.year_after.ensures in
    none_after from end
    (rw (read_back (record { sfits = c.second_after.type_inv }), read_back (record { sfits = c.year_after.type_inv })) at
    c.in-None.ensures)

pub returns-in-Some : goal.returns-in-Some
returns-in-Some c =
    let from = rw (read_back c.ranges.time) at c.second_after.ensures in
    let end = rw (read_back c.ranges.time) at c.year_after.ensures in
    let own = rw (read_back (record { sfits = c.second_after.type_inv }), read_back (record { sfits = c.year_after.type_inv })) at
    c.in-Some.ensures in
    let after_is = read_back {z = c.in-Some.after} (search rules) in
    after_in_period _ _ from own
    (rw (after_is, read_back c.ranges.time) at c.in_period_of.ensures)
