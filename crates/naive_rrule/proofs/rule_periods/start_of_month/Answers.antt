use Rattle.std.proofs.lemmas.Int.{clamps}
use Rattle.naive_base.proofs.Words.{arith, ints, to_z-of_z}
use Rattle.naive_plans.proofs.ForCallers.{read_back}
use Rattle.naive_rrule.proofs.Periods.{month_earlier, month_later}
use Rattle.naive_rrule.proofs.rule_periods.start_of_month.Goals as goal

pub returns-clause-later : goal.returns-clause-later
returns-clause-later c = λ l come.
    rw (read_back (record { sfits = c.start_of_month_up.type_inv })) (month_later l _ _ _ (rw (read_back
    (record { sfits = c.min.type_inv })) at c.start_of_month_up.ensures.value)
    (simp (to_z-of_z, c.ranges.number) at c.min.ensures.self_bound) come)

pub returns-clause-earlier : goal.returns-clause-earlier
returns-clause-earlier c = λ l in_years before.
    let is = simp (to_z-of_z, c.ranges.number) at c.min.ensures.value in
    rw (read_back (record { sfits = c.start_of_month_up.type_inv })) (month_earlier _ _ l _ (rw (read_back
    (record { sfits = c.min.type_inv })) at c.start_of_month_up.ensures.value)
    (λ k less short. omega (arith, ints, clamps)) in_years before)
