use Rattle.std.proofs.lemmas.Int.{clamps}
use Rattle.naive_base.proofs.Words.{arith, ints, rules, to_z-of_z}
use Rattle.naive_plans.proofs.ForCallers.{read_back}
use Rattle.naive_rrule.proofs.OccasionsBack.{day_to, days_up_to}
use Rattle.naive_rrule.proofs.occasions.Occasions.day_before.Goals as goal

pub returns-in-None-clause-none : goal.returns-in-None-clause-none
returns-in-None-clause-none c = grind (arith, to_z-of_z)

pub returns-in-Some-clause-bound : goal.returns-in-Some-clause-bound
returns-in-Some-clause-bound c = search (rules, to_z-of_z)

pub returns-in-Some-clause-none : goal.returns-in-Some-clause-none
returns-in-Some-clause-none c =
    let same = read_back {z = c.in-Some.end} (search rules) in
    let is_last = read_back {z = c.previous_day-last.result} (record { sfits = c.previous_day-last.type_inv }) in
    let is_day = read_back {z = c.day_of.result} (record { sfits = c.day_of.type_inv }) in
    λ d second on short less.
    let le = (rw (read_back c.ranges.day) at c.previous_day-last.ensures.none) d on.date less in
    let at = rw is_last at c.second_at.ensures in
    let own = rw at at (rw (read_back (record { sfits = c.second_at.type_inv })) at c.in-Some.ensures) in
    let before = own.none _ on.counts (days_up_to _ d second le short) in
    let is_end = rw same at c.second_before.ensures in
    let day = rw is_end at (rw (read_back (record { sfits = c.second_before.type_inv })) at c.day_of.ensures) in
    let up = day_to _ _ d second day short before in
    let is_min = rw (is_last, is_day) at c.min.ensures.value in
    rw (read_back (record { sfits = c.min.type_inv })) (omega (arith, ints, clamps))
