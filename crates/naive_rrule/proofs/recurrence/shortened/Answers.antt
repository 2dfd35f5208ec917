use Rattle.naive_base.proofs.Words.{rules, to_z-of_z}
use Rattle.naive_plans.proofs.ForCallers.{read_back}
use Rattle.naive_rrule.proofs.RuleTimes.{bounded_to, none_to, none_up, same_to}
use Rattle.naive_rrule.proofs.recurrence.shortened.Goals as goal

pub returns-in-None-clause-same : goal.returns-in-None-clause-same
returns-in-None-clause-same c = search (rules, to_z-of_z, none_to, none_up)

pub returns-in-Some-clause-same : goal.returns-in-Some-clause-same
returns-in-Some-clause-same c =
    let own = rw (read_back c.ranges.last) at c.in-Some.ensures in
    let bound = bounded_to c.args.of.now.started.2 own in
    let same = read_back {z = c.in-Some.time} (search rules) in
    rw same (same_to c.args.of.now.started.2 own)

pub returns-in-Some-clause-bound : goal.returns-in-Some-clause-bound
returns-in-Some-clause-bound c = search (rules, to_z-of_z, bounded_to)
