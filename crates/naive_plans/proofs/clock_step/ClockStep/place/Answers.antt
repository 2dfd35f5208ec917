use Rattle.naive_base.proofs.Words.{to_z-of_z}
use Rattle.naive_plans.proofs.ClockSteps.{in_year_of}
use Rattle.naive_plans.proofs.clock_step.ClockStep.place.Goals as goal

pub returns-in-Year-clause-place : goal.returns-in-Year-clause-place
returns-in-Year-clause-place c =
    let fits = c.ranges.day in
    rw c.in-Year.is (in_year_of _ _ _ (simp to_z-of_z at c.place_in_year.ensures.before) (simp to_z-of_z at c.place_in_year.ensures.after))
