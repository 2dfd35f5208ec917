use Rattle.naive_base.proofs.Words.{to_z-of_z}
use Rattle.naive_plans.proofs.ClockSteps.{in_week}
use Rattle.naive_plans.proofs.clock_step.place_in_week.Goals as goal

pub returns-clause-place : goal.returns-clause-place
returns-clause-place c =
    in_week _ _ _ (simp (to_z-of_z, c.ranges.day) at c.days_of_week-before.ensures.value)
