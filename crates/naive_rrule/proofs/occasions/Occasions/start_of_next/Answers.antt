use Rattle.naive_base.proofs.Words.{ap, of_z, to_z-of_z, w64}
use Rattle.naive_plans.proofs.ForCallers.{read_back}
use Rattle.naive_rrule.proofs.OccasionWalk.{starts_later}
use Rattle.naive_rrule.proofs.occasions.Occasions.start_of_next.Goals as goal

pub returns : goal.returns
returns c =
    rw (read_back (record { sfits = c.start_of.type_inv }))
    (starts_later _ _ _ c.first_period.ensures.value (simp (to_z-of_z, c.ranges.second) at c.period_at-period.ensures.value)
    (rw (read_back (record { sfits = c.first_period.type_inv }), read_back (record { sfits = c.period_at-period.type_inv }))
    at c.last_period-last.ensures)
    (λ same. c.if-last-period.false (ap (of_z w64) same))
    (rw (read_back (record { sfits = c.last_period-last.type_inv })) at c.period_after.ensures)
    (rw (read_back (record { sfits = c.period_after.type_inv })) at c.start_of.ensures.later) c.start_of.ensures.bound)
