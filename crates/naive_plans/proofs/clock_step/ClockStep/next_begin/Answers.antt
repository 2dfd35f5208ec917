use Rattle.naive_plans.proofs.{Bits.{read_back}, ClockSteps.{next_is}}
use Rattle.naive_plans.proofs.clock_step.ClockStep.next_begin.Goals as goal

pub returns-clause-value : goal.returns-clause-value
returns-clause-value c =
    let fits_day = read_back {z = c.day_of-day.result} (record { sfits = c.day_of-day.type_inv }) in
    rw (read_back (record { sfits = c.second_at.type_inv })) (
    next_is _
    (rw (read_back c.ranges.second) at c.day_of-day.ensures) (rw (read_back c.ranges.second) at c.second_of.ensures.value)
    c.seconds_in_day.ensures.value c.seconds_in_day.ensures.bound (rw fits_day at c.place-around.ensures.place)
    (rw fits_day at c.days_on.ensures.value) c.next_in_day-next.ensures.value
    (rw (read_back (record { sfits = c.days_on.type_inv })) at c.second_at.ensures)
    )
