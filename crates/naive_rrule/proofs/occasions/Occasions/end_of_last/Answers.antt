use Rattle.naive_base.proofs.Words.{ap, arith, of_z, refl, to_z-of_z, w64}
use Rattle.naive_plans.proofs.ForCallers.{read_back}
use Rattle.naive_rrule.proofs.{OccasionWalk.{ends_earlier}, OccasionsBack.{none_counted}}
use Rattle.naive_rrule.proofs.occasions.Occasions.end_of_last.Goals as goal

pub last_period-last-requires-clause-later : goal.last_period-last-requires-clause-later
last_period-last-requires-clause-later c = c.if-not-is_from.ensures.0 refl

pub returns-then-not-is_from : goal.returns-then-not-is_from
returns-then-not-is_from c =
    let from = rw (read_back (record { sfits = c.first_period-first.type_inv }), read_back (record { sfits = c.period_at-period.type_inv }))
    at c.is_from.ensures in
    rw (read_back (record { sfits = c.second_before_all.type_inv }))
    (none_counted _ _ _ _ _ _ c.first_period-first.ensures.value
    (simp (to_z-of_z, c.ranges.second) at c.period_at-period.ensures.value) (λ late. grind (arith, from.1 late, c.if-not-is_from.true))
    c.args.self.now.started.3 c.second_before_all.ensures)

pub returns : goal.returns
returns c =
    rw (read_back (record { sfits = c.start_of.type_inv }))
    (ends_earlier _ _ _ c.first_period-first.ensures.value (simp (to_z-of_z, c.ranges.second) at c.period_at-period.ensures.value)
    (rw (read_back (record { sfits = c.first_period-first.type_inv }), read_back (record { sfits = c.period_at-period.type_inv }))
    at c.last_period-last.ensures)
    (λ same. c.if-last-period.false (ap (of_z w64) same))
    (rw (read_back (record { sfits = c.last_period-last.type_inv })) at c.period_after.ensures) c.requires.1
    (rw (read_back (record { sfits = c.period_after.type_inv })) at c.start_of.ensures.earlier)
    (rw (read_back (record { sfits = c.period_after.type_inv })) at c.start_of.ensures.later)
    c.args.self.now.started.3)
