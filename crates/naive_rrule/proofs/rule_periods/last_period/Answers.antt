use Rattle.naive_base.proofs.Words.{to_z-of_z}
use Rattle.naive_plans.proofs.ForCallers.{read_back}
use Rattle.naive_rrule.proofs.Periods.{last_one}
use Rattle.naive_rrule.proofs.rule_periods.last_period.Goals as goal

pub returns : goal.returns
returns c =
    let fits = c.ranges.period in let fits_first = c.ranges.first in
    rw (read_back (record { sfits = c.period_after.type_inv })) (last_one _ _ _ _
    _ c.requires.interval (simp to_z-of_z at c.passed_since.ensures.value) (rw c.whole_intervals.ensures.value at
    (simp to_z-of_z at c.period_after.ensures)))
