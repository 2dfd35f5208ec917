use Rattle.naive_base.proofs.Words.{arith, ints, refl, rules, to_z-of_z}
use Rattle.naive_plans.proofs.ForCallers.{read_back}
use Rattle.naive_rrule.proofs.{OccasionsBack.{after_all}, RuleTimes.{all_early, last_found, more_to, none_of_them, none_to_start}}
use Rattle.naive_rrule.proofs.recurrence.last_to.Goals as goal

pub returns-in_default : goal.returns-in_default
returns-in_default c = grind (arith, to_z-of_z, none_of_them)

pub returns-then-not-is_from : goal.returns-then-not-is_from
returns-then-not-is_from c =
    let inv = rw (read_back c.ranges.until) at c.times.invariant in let own = c.in-Some.ensures in
    let low = after_all _ _ _ own.planned in let start_is = read_back {z = c.args.of.now.start} (search rules) in
    let last_is = read_back {z = c.in-Some.last} (search rules) in
    let from = rw (last_is, start_is) at c.is_from-in-times.ensures in
    all_early inv own
    (λ le. grind (arith, from.1 le, c.if-not-is_from.true))

pub returns-then-is_at_position : goal.returns-then-is_at_position
returns-then-is_at_position c =
    let inv = rw (read_back c.ranges.until) at c.times.invariant in let own = c.in-Some.ensures in
    let low = after_all _ _ _ own.planned in let start_is = read_back {z = c.args.of.now.start} (search rules) in
    let last_is = read_back {z = c.in-Some.last} (search rules) in
    rw last_is (last_found c.requires inv own
    (rw (last_is, start_is) at (c.if-not-is_from.ensures.0 refl)) (rw last_is at (c.if-is_at_position.ensures.0 refl)))

pub times-preserved : goal.times-preserved
times-preserved c =
    let inv = rw (read_back c.ranges.until) at c.times.invariant in let own = c.in-Some.ensures in
    let low = after_all _ _ c.in-Some.last own.planned in let last_is = read_back {z = c.in-Some.last} (search rules) in
    let next = rw last_is at c.second_before-to.ensures in let at = rw last_is at c.if-is_at_position.ensures in
    rw (read_back (record { sfits = c.second_before-to.type_inv }), read_back c.ranges.until)
    (more_to c.args.of.now.started.2 inv own (λ own_at. grind (arith, at.1 own_at, c.if-is_at_position.false)) next)

pub returns : goal.returns
returns c = search (rules, to_z-of_z, none_to_start)

pub is_at_position-requires-clause-from_start : goal.is_at_position-requires-clause-from_start
is_at_position-requires-clause-from_start c = grind (arith, to_z-of_z)

pub second_before-to-requires : goal.second_before-to-requires
second_before-to-requires c =
    let fits = c.ranges.until in let inv = rw (read_back fits) at c.times.invariant in let own = c.in-Some.ensures in
    let low = after_all _ _ _ own.planned in let last_is = read_back {z = c.in-Some.last} (search rules) in
    rw last_is (omega (arith, ints), omega (arith, ints))

pub times-smaller : goal.times-smaller
times-smaller c =
    let fits = c.ranges.until in let inv = rw (read_back fits) at c.times.invariant in let own = c.in-Some.ensures in
    let low = after_all _ _ _ own.planned in let start_is = read_back {z = c.args.of.now.start} (search rules) in
    let last_is = read_back {z = c.in-Some.last} (search rules) in
    let from = rw (last_is, start_is) at (c.if-not-is_from.ensures.0 refl) in
    let next = rw last_is at c.second_before-to.ensures in
    rw (read_back (record { sfits = c.second_before-to.type_inv })) (omega (arith, ints))
