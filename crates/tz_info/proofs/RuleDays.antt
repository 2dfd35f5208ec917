-- Each year has one day that is the rule's, and the closed form finds it.
use Rattle.tz_info.proofs.{
  Words.{DayForm, IsDayOf, IsRuleDay, LiesIn, ap, arith, closed_day, closed_day_is, date_lies, day_number, days_at_least, days_at_most, days_in_year, floors},
  Words.{is_leap, julian_is, leap_at_most, months_all, months_step, number_after, pos, rule_day, starts_rise, sym, weekday_at, weekday_below, weekday_is},
  Words.{weekday_place, year_start, year_step, ℕ, ℤ, ◌+ℤ◌, ◌+◌, ◌<ℤ◌, ◌∙◌, ◌≡◌, ◌≤ℤ◌},
}
use Rattle.tz_info.specs.declared.rule.day.DayForm.TheVariants.{Julian0, Julian1, MonthWeekday}

-- the day after 31 December
pub after_december : (year : ℤ) → day_number year 12 32 ≡ year_start year +ℤ pos (days_in_year year)
unfolding day_number
after_december year = omega (arith, floors, months_step (is_leap year) 12 (omega arith), months_all year)

pub one_rule_day : (form : DayForm) (year a b : ℤ) → IsRuleDay form → IsDayOf form year a → IsDayOf form year b → a ≡ b
one_rule_day (Julian1 n) year a b fits h k = h.3 ∙ sym (julian_is year n h.0 h.1 h.2) ∙ julian_is _ n k.0 k.1 k.2 ∙ sym k.3
one_rule_day (Julian0 n) year a b fits h k = h ∙ sym k
one_rule_day (MonthWeekday month week weekday) year a b fits h k =
    h.2 ∙ ap (day_number year _) (grind (arith, weekday_at, weekday_below)) ∙ sym k.2

pub rule_day_is : (form : DayForm) (year : ℤ) → IsRuleDay form → IsDayOf form year (rule_day form year)
unfolding rule_day
rule_day_is form year fits = grind arith

pub rule_day_closed : (form : DayForm) (year : ℤ) → IsRuleDay form → rule_day form year ≡ closed_day form year
rule_day_closed form year fits =
    one_rule_day _ _ _ _ fits (rule_day_is _ _ fits) (closed_day_is form year fits)

-- the rule's day is a date of its year, if it is no plain day number
weekday_lies : (year : ℤ) (month week weekday : ℕ) → IsRuleDay (MonthWeekday month week weekday)
    → LiesIn (closed_day (MonthWeekday month week weekday) year) year
unfolding closed_day
weekday_lies year month week weekday fits =
    let place = weekday_place _ _ week weekday in
    rw (number_after year month place) at (date_lies year month (place + 1) (weekday_is year month week weekday fits.0 fits.1 fits.2 fits.3 fits.4).date)

-- the rule's day lies in its year, or is the day after it
pub day_within : (form : DayForm) (year : ℤ) → IsRuleDay form → (year_start year ≤ℤ rule_day form year) × (rule_day form year ≤ℤ (year_start year +ℤ pos 365))
unfolding closed_day
day_within (Julian1 n) year fits = rw (rule_day_closed _ year fits) (grind (arith, leap_at_most, floors))
day_within (Julian0 n) year fits = rw (rule_day_closed _ year fits) (omega (arith, floors))
day_within (MonthWeekday month week weekday) year fits =
    let lies = weekday_lies year _ _ _ fits in rw (rule_day_closed _ year fits) (grind (arith, days_at_most, floors, year_step))

-- a later year begins at least a year later
later_start : (a b : ℤ) → a <ℤ b → (year_start a +ℤ pos (days_in_year a)) ≤ℤ year_start b
later_start a b h = grind (arith, starts_rise, year_step a)

-- the rule's day comes later in a later year
pub day_rises : (form : DayForm) (a b : ℤ) → IsRuleDay form → a <ℤ b → rule_day form a <ℤ rule_day form b
unfolding closed_day
day_rises (Julian1 n) a b fits h =
    let next = later_start a b h in rw (rule_day_closed _ a fits, rule_day_closed _ b fits) (grind (arith, floors))
day_rises (Julian0 n) a b fits h =
    let next = later_start a b h in let least = days_at_least a in rw (rule_day_closed _ a fits, rule_day_closed _ b fits) (omega (arith, floors))
day_rises (MonthWeekday month week weekday) a b fits h =
    let next = later_start a b h in let step = year_step a in
    let here = weekday_lies a _ _ _ fits in let there = weekday_lies b _ _ _ fits in
    rw (rule_day_closed _ a fits, rule_day_closed _ b fits) (omega (arith, floors))
