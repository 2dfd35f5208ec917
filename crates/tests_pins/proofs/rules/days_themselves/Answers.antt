use Rattle.tz_info.proofs.Words.{closed_day_is}
use Rattle.tz_info.specs.declared.rule.day.DayForm.TheVariants.{MonthWeekday}
use Rattle.tests_pins.proofs.{Words.{IsDate, arith, closed_day, day_number, floors, pos, refl, weekday_of, ℕ, ◌≡◌, ◌≤◌}, Computed.{calendar}}
use Rattle.tests_pins.proofs.rules.days_themselves.Goals as goal

-- no Sunday of March 2021 comes after the 28th
last_sunday : (other : ℕ) → IsDate (pos 2021) 3 other → weekday_of (day_number (pos 2021) 3 other) ≡ 0 → other ≤ 28
unfolding calendar
last_sunday other date falls = omega (arith, floors, date.2, date.3, falls)

pub returns : goal.returns
unfolding calendar closed_day
returns c = record {
  j60_leap = (3, 1, (omega arith, omega arith, omega arith, omega arith, refl), refl);
  n59_leap = refl;
  second_sunday = (14, record { date = omega arith; falls = refl; in_week = λ _. omega arith; last = λ e. absurd (omega (arith, e)) }, refl);
  last_sunday = (28, record { date = omega arith; falls = refl; in_week = λ h. absurd (omega (arith, h)); last = λ e. last_sunday }, refl);
  first_monday = closed_day_is (MonthWeekday 11 1 1) (pos 2021) (omega arith);
  seventh_of_month = closed_day_is (MonthWeekday 11 1 0) (pos 2021) (omega arith);
}
