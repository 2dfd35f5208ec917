use Rattle.naive_base.proofs.Words.{arith, rules, to_z-of_z}
use Rattle.naive_plans.proofs.ForCallers.{read_back}
use Rattle.naive_rrule.proofs.OccasionsBack.{hour_back, minute_back, one_back, period_back}
use Rattle.naive_rrule.proofs.occasions.Occasions.skipped_back.Goals as goal

pub returns-then-not-has_hour : goal.returns-then-not-has_hour
returns-then-not-has_hour c = grind (arith, to_z-of_z, hour_back)

pub returns-then-not-has_minute : goal.returns-then-not-has_minute
returns-then-not-has_minute c = minute_back _ _ _ _ (λ has. let yes = c.has_minute.ensures.1 has
    in grind (arith, yes, c.if-not-has_minute.true))

pub returns-then-not-has_second : goal.returns-then-not-has_second
returns-then-not-has_second c = grind (arith, to_z-of_z, one_back)

pub returns-in-Some : goal.returns-in-Some
returns-in-Some c =
    let at = simp (to_z-of_z, c.ranges.day) at c.second_at.ensures in
    period_back _ _ _ _ at
    (rw (read_back (record { sfits = c.second_at.type_inv })) at c.in-Some.ensures) c.earlier_in_day.ensures.earlier
    (λ k before less.
    let same = read_back {z = c.in-Some.end} (search rules) in
    let midnight = simp (to_z-of_z, c.ranges.day) at c.seconds_of.ensures in
    c.earlier_in_day.ensures.end k before (rw (same, read_back (record { sfits = c.seconds_of.type_inv }), midnight) less))

pub returns : goal.returns
returns c = grind (arith, to_z-of_z)
