use Rattle.naive_base.proofs.Words.{arith, rules, to_z-of_z}
use Rattle.naive_plans.proofs.ForCallers.{read_back}
use Rattle.naive_rrule.proofs.OccasionWalk.{hour_skipped, minute_skipped, period_skipped, second_skipped}
use Rattle.naive_rrule.proofs.occasions.Occasions.skipped.Goals as goal

pub returns-then-not-has_hour : goal.returns-then-not-has_hour
returns-then-not-has_hour c = grind (arith, to_z-of_z, hour_skipped)

pub returns-then-not-has_minute : goal.returns-then-not-has_minute
returns-then-not-has_minute c = minute_skipped _ _ c.args.day c.args.second c.requires.second
    (λ has. grind (arith, c.has_minute.ensures.1 has, c.if-not-has_minute.true))

pub returns-then-not-has_second : goal.returns-then-not-has_second
returns-then-not-has_second c = grind (arith, to_z-of_z, second_skipped)

pub returns-in-Some : goal.returns-in-Some
returns-in-Some c =
    let at = simp (to_z-of_z, c.ranges.day) at c.second_at.ensures in
    period_skipped _ _ _ _ at
    (rw (read_back (record { sfits = c.second_at.type_inv })) at c.in-Some.ensures) c.later_in_day.ensures.later
    (λ k in_day after le.
    let same = read_back {z = c.in-Some.start} (search rules) in
    let midnight = simp (to_z-of_z, c.ranges.day) at c.seconds_of.ensures in
    c.later_in_day.ensures.start k in_day after (rw (same, read_back (record { sfits = c.seconds_of.type_inv }), midnight) le))

pub returns : goal.returns
returns c = grind (arith, to_z-of_z)
