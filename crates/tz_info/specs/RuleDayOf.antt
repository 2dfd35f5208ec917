-- The rule's day of a year, as a function of the year: some number that is the rule's day in that year. `rule_days_law` proves
-- that there is no other.
use Rattle.std.specs.Prelude.{ℤ}
use Rattle.tz_info.specs.{RuleDays.{IsRuleDay, IsDayOf}, Steps.RuleDays.{some_day}, declared.rule.day.DayForm.{DayForm}}

-- a number that is the rule's day in that year, if the form is one of a rule's day
pub rule_day_with : (form : DayForm) (year : ℤ) → (number : ℤ) × (IsRuleDay form → IsDayOf form year number)
rule_day_with form year = some_day form year

-- the rule's day in that year, as a function
unfoldable pub rule_day : DayForm → ℤ → ℤ
rule_day form year = (rule_day_with form year).0
