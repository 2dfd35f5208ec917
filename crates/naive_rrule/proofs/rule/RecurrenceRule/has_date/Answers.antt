use Rattle.naive_base.proofs.Words.{arith, to_z-of_z}
use Rattle.naive_rrule.proofs.RuleParts.{not_month, not_month_day, not_weekday, on_date}
use Rattle.naive_rrule.proofs.rule.RecurrenceRule.has_date.Goals as goal

pub returns-then-not-has_month : goal.returns-then-not-has_month
returns-then-not-has_month c = grind (arith, to_z-of_z, not_month)

pub returns-then-not-has_month_day : goal.returns-then-not-has_month_day
returns-then-not-has_month_day c = grind (arith, to_z-of_z, not_month_day)

pub returns-then-not-has_weekday : goal.returns-then-not-has_weekday
returns-then-not-has_weekday c = grind (arith, to_z-of_z, not_weekday)

pub returns-then-has_week : goal.returns-then-has_week
returns-then-has_week c = grind (arith, to_z-of_z, on_date)

pub returns-else-has_week : goal.returns-else-has_week
returns-else-has_week c = grind (arith, to_z-of_z)
