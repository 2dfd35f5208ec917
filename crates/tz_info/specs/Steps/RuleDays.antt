-- The rule's day of a year in closed form, and that it is the day which its text describes.
use Rattle.naive_base.specs.{Year.{is_leap, year_start}, Month.{days_in_month, days_of_months}, Date.{day_number}, Weekday.{weekday_of}}
use Rattle.naive_base.proofs.{
  ForCallers.{floors, leap_day, months_early, months_late, month_bounds, months_step, months_rise, place_is, number_at, weekday_later, weekday_below},
}
use Rattle.std.proofs.{
  Common.{◌≡◌, ℕ, ◌+◌, ◌-◌, ◌*◌, ◌%◌, ◌<◌, ◌≤◌, Bool, false, nat_le, nat_lt, ◌&&◌, if◌then◌else◌, arith, refl, sym, ℤ, pos, ◌+ℤ◌},
  lemmas.Bool.Decides.{nat_tests},
}
use Rattle.tz_info.specs.{
  RuleDays.{IsRuleDay, IsCommonDate, IsWeekdayInWeek, IsDayOf},
  declared.rule.day.DayForm.{DayForm, TheVariants.{Julian1, Julian0, MonthWeekday}},
}

-- how many days of the year come before the n-th date of a common year
abbrev pub julian_place : Bool → ℕ → ℕ
julian_place leap n = n - 1 + (if leap && nat_le 60 n then 1 else 0)

-- a place in a month of `days` days, or the place a week earlier if the month is too short
abbrev pub place_within : ℕ → ℕ → ℕ
place_within days place = if nat_lt place days then place else place - 7

-- how many days come before the week's weekday, in a month of `days` days that begins with the weekday `first`
abbrev pub weekday_place : ℕ → ℕ → ℕ → ℕ → ℕ
weekday_place days first week weekday = place_within days ((weekday + 7 - first) % 7 + 7 * (week - 1))

-- the day number of the rule's day in that year
unfoldable pub closed_day : DayForm → ℤ → ℤ
closed_day (Julian1 n) year = year_start year +ℤ pos (julian_place (is_leap year) n)
closed_day (Julian0 n) year = year_start year +ℤ pos n
closed_day (MonthWeekday month week weekday) year =
    day_number year month 1 +ℤ pos (weekday_place (days_in_month (is_leap year) month) (weekday_of (day_number year month 1)) week weekday)

-- the place that the closed form finds in a month, over numbers alone
place_kept : (days first week weekday : ℕ) → 28 ≤ days → days ≤ 31 → first < 7 → 1 ≤ week → week ≤ 5 → weekday ≤ 6
    → (weekday_place days first week weekday < days) × ((first + weekday_place days first week weekday) % 7 ≡ weekday)
    × (week < 5 → (7 * (week - 1) ≤ weekday_place days first week weekday) × (weekday_place days first week weekday < 7 * week))
    × (week ≡ 5 → days ≤ weekday_place days first week weekday + 7)
place_kept days first week weekday a b c e f g = grind (arith, nat_tests)

-- the weekday of a day of the month, from that of the first
pub weekday_at : (year : ℤ) (month day : ℕ) → 1 ≤ day → weekday_of (day_number year month day) ≡ (weekday_of (day_number year month 1) + (day - 1)) % 7
weekday_at year month day low = grind (arith, number_at, weekday_later)

pub number_after : (year : ℤ) (month place : ℕ) → day_number year month (place + 1) ≡ day_number year month 1 +ℤ pos place
number_after year month place = grind (arith, number_at)

pub weekday_is : (year : ℤ) (month week weekday : ℕ) → 1 ≤ month → month ≤ 12 → 1 ≤ week → week ≤ 5 → weekday ≤ 6
    → IsWeekdayInWeek year month week weekday (weekday_place (days_in_month (is_leap year) month) (weekday_of (day_number year month 1)) week weekday + 1)
weekday_is year month week weekday first_month last_month first_week last_week last_day =
    grind (arith, place_kept, month_bounds, number_after, weekday_later, weekday_below, weekday_at)

before_march : (leap : Bool) (month : ℕ) → 1 ≤ month → month ≤ 2 → days_of_months leap (month - 1) ≡ days_of_months false (month - 1)
before_march leap month low high = grind (arith, months_early)

from_march : (leap : Bool) (month : ℕ) → 3 ≤ month → month ≤ 12 → days_of_months leap (month - 1) ≡ days_of_months false (month - 1) + leap_day leap
from_march leap month low high = grind (arith, months_late)

common_months : (days_of_months false 0 ≡ 0) × (days_of_months false 2 ≡ 59) × (days_of_months false 12 ≡ 365)
unfolding days_of_months
common_months = grind arith

-- the date is the 60th or a later one exactly from March on
common_place : (year : ℤ) (n month day : ℕ) → IsCommonDate n month day → days_of_months (is_leap year) (month - 1) + (day - 1) ≡ julian_place (is_leap year) n
common_place year n month day h = grind (arith, nat_tests, common_months, months_rise, before_march, months_step, from_march)

pub julian_is : (year : ℤ) (n month day : ℕ) → IsCommonDate n month day → year_start year +ℤ pos (julian_place (is_leap year) n) ≡ day_number year month day
unfolding day_number
julian_is year n month day h = grind (arith, common_place)

pub first_of_year : (year : ℤ) → day_number year 1 1 ≡ year_start year
unfolding day_number days_of_months
first_of_year year = omega (arith, floors)

pub closed_day_is : (form : DayForm) (year : ℤ) → IsRuleDay form → IsDayOf form year (closed_day form year)
unfolding closed_day
closed_day_is (Julian1 n) year fits =
    let none = common_months.0 in
    let p = place_is 11 false 1 (n - 1) refl (omega arith) (omega (arith, none, common_months.2)) in
    let date : IsCommonDate n _ _ = (p.month.0, p.month.1, p.day.0, p.day.1, omega (arith, p.place, none, p.day.0)) in
    (_, _, date, julian_is year n _ _ date)
closed_day_is (Julian0 n) year fits = rw (first_of_year year) refl
closed_day_is (MonthWeekday month week weekday) year fits = (
  _,
  weekday_is year month week weekday fits.0 fits.1 fits.2 fits.3 fits.4,
  sym (number_after year month (weekday_place (days_in_month (is_leap year) month) (weekday_of (day_number year month 1)) week weekday)),
)

pub some_day : (form : DayForm) (year : ℤ) → (number : ℤ) × (IsRuleDay form → IsDayOf form year number)
some_day form year = (closed_day form year, closed_day_is form year)
