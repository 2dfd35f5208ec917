use Rattle.naive_base.proofs.Words.{to_z-of_z}
use Rattle.naive_plans.proofs.ClockSteps.{in_month_of}
use Rattle.naive_plans.proofs.clock_step.place_in_month.Goals as goal

pub returns-clause-place : goal.returns-clause-place
returns-clause-place c =
    let fits = c.ranges.day in
    in_month_of _ c.date_of-date.result.year c.date_of-date.result.month c.date_of-date.result.day _
    (simp to_z-of_z at c.date_of-date.ensures.year) (simp to_z-of_z at c.date_of-date.ensures.month) (simp to_z-of_z at c.date_of-date.ensures.day)
    c.month_length.ensures.value
