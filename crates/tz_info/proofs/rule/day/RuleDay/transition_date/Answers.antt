use Rattle.tz_info.proofs.{RuleDays.rule_day_closed, Words.{arith, closed_day, inl, linear, number_after, sym, to_z-of_z, ◌+◌, ◌∙◌}}
use Rattle.tz_info.proofs.rule.day.RuleDay.transition_date.Goals as goal

pub returns-in-Julian1 : goal.returns-in-Julian1
unfolding closed_day
returns-in-Julian1 c = grind (arith, rule_day_closed)

pub returns-in-Julian0 : goal.returns-in-Julian0
unfolding closed_day
returns-in-Julian0 c = grind (arith, rule_day_closed)

pub returns-in-MonthWeekday-clause-date : goal.returns-in-MonthWeekday-clause-date
unfolding closed_day
returns-in-MonthWeekday-clause-date c =
    let in_range = c.ranges.year in
    let year = c.args.year in let month = c.in-MonthWeekday.month in let place = c.place_in_month-place.result in
    let shown = sym c.self.view_is ∙ c.in-MonthWeekday.is in
    let limits = rw c.in-MonthWeekday.is at c.self.invariant in
    let value = simp to_z-of_z at c.place_in_month-place.ensures.value in
    let within = simp to_z-of_z at c.place_in_month-place.ensures.within in (
      place + 1,
      omega linear,
      inl (limits.0, limits.1, omega arith, omega arith),
      rw (shown, rule_day_closed _ _ limits, ← value) (number_after year month place),
    )
