use Rattle.naive_base.proofs.Words.{arith, rules, to_z-of_z}
use Rattle.naive_rrule.proofs.RuleParts.{weekday_in_month, weekday_in_year}
use Rattle.naive_rrule.proofs.rule.RecurrenceRule.has_weekday.Goals as goal

pub returns-then-not-counts_in_year : goal.returns-then-not-counts_in_year
returns-then-not-counts_in_year c =
    weekday_in_month _ _ _ _ _ _ _ (search rules) (search rules)
    (simp (to_z-of_z, c.ranges.day) at c.weekday_of-weekday.ensures.value) c.lists_weekday.ensures

pub returns : goal.returns
returns c = grind (arith, to_z-of_z, weekday_in_year)
