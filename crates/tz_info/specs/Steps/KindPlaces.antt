-- How many days of a year come before a rule's day: it follows from the year's length and its first weekday.
use Rattle.std.specs.{List.{range_with_len}, Prelude.{ℕ, ◌+◌, ◌-◌, ◌%◌, Bool, List, map, nat_le}}
use Rattle.{
  naive_base.specs.Month.{days_in_month, days_of_months},
  tz_info.specs.{Steps.RuleDays.{julian_place, weekday_place}, declared.rule.day.DayForm.{DayForm, TheVariants.{Julian1, Julian0, MonthWeekday}}},
}

-- the place of the week's weekday in a month of `days` days that begins `before` days after the year
abbrev pub weekday_place_from : ℕ → ℕ → ℕ → ℕ → ℕ → ℕ
weekday_place_from before days first week weekday = before + weekday_place days ((first + before) % 7) week weekday

-- how many days of a year of that kind come before the rule's day
unfoldable pub place_by : DayForm → Bool → ℕ → ℕ
place_by (Julian1 n) leap first = julian_place leap n
place_by (Julian0 n) leap first = n
place_by (MonthWeekday month week weekday) leap first =
    weekday_place_from (days_of_months leap (month - 1)) (days_in_month leap month) first week weekday

-- in years of each kind: the common years that begin with Sunday to Saturday, and then the leap years
unfoldable pub places_by_kind : DayForm → List ℕ
places_by_kind form = map (λ k. place_by form (nat_le 7 k) (k % 7)) (range_with_len 0 14)
