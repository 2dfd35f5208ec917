-- The parts of a rule.
use Rattle.std.proofs.Common.{IsTrue, Bool, ◌↔◌}
use Rattle.gregorian.specs.Weekdays.{weekday_of}
use Rattle.naive_base.proofs.Words.{to_z-of_z, arith, pos, ℕ, ℤ, ◌≡◌, ◌/◌, ◌%◌, ◌+◌, ◌-◌, ◌<◌, ◌≤◌, ◌+ℤ◌, ◌-ℤ◌, ints, day_of_year_is, floors}
use Rattle.naive_base.proofs.Words.{day_of_month, day_of_year, month_of, year_of, days_in_month, days_in_year, floor_mod, is_leap, weekday_number}
use Rattle.naive_rrule.specs.RecurrenceRules.{CountsInYear, HasMonth, HasMonthDay, HasWeekday, IsAbsent, IsInWeek, IsOnDate, IsOnYearDay, ListsPlace}
use Rattle.naive_rrule.specs.{RecurrenceRules.{ListsWeekday, fourth_of_week}, declared.rule.RecurrenceRule.{RecurrenceRule}}

pub weekday_in_month : (r : RecurrenceRule) (start day : ℤ) (before after w : ℕ) (b : Bool) → (CountsInYear r → ⊥) → (IsAbsent r.by_weekday.now → ⊥)
    → w ≡ weekday_of day → (IsTrue b ↔ ListsWeekday r.by_weekday.now w (before / 7) (after / 7)) → IsTrue b ↔ HasWeekday r start day before after
weekday_in_month = grind (arith, ints)

pub weekday_in_year : (r : RecurrenceRule) (start day : ℤ) (before after w b a : ℕ) (t : Bool) → CountsInYear r → (IsAbsent r.by_weekday.now → ⊥)
    → w ≡ weekday_of day → b ≡ day_of_year day → a ≡ days_in_year (year_of day) - 1 - day_of_year day
    → (IsTrue t ↔ ListsWeekday r.by_weekday.now w (b / 7) (a / 7)) → IsTrue t ↔ HasWeekday r start day before after
weekday_in_year = grind (arith, ints)

pub in_week : (r : RecurrenceRule) (day f : ℤ) (b a : ℕ) (t : Bool) → (IsAbsent r.by_week_number.now → ⊥)
    → f ≡ fourth_of_week (weekday_number r.week_start) day → b ≡ day_of_year f → a ≡ days_in_year (year_of f) - 1 - day_of_year f
    → (IsTrue t ↔ ListsPlace r.by_week_number.now (b / 7) (a / 7)) → IsTrue t ↔ IsInWeek r day
in_week = grind (arith, ints)

pub fourth_is : (day fourth : ℤ) (passed first : ℕ) → passed ≡ floor_mod (day +ℤ pos 4 -ℤ pos first) 7 → fourth ≡ day -ℤ pos passed +ℤ pos 3
    → fourth ≡ fourth_of_week first day
fourth_is = omega (arith, floors, ints)

-- ---- a date
pub not_month : (r : RecurrenceRule) (start day : ℤ) (m f : ℕ) → m ≡ month_of day → f ≡ month_of start → (HasMonth r f m → ⊥) → IsOnDate r start day → ⊥
not_month = grind (arith, ints)

-- the date of `day`
module _ (r : RecurrenceRule) (start day : ℤ) {year : ℤ} {m d n : ℕ} (is_year : year ≡ year_of day) (is_month : m ≡ month_of day)
    (is_day : d ≡ day_of_month day) (days : n ≡ days_in_month (is_leap year) m) where
  pub not_month_day : {f : ℕ} → f ≡ day_of_month start → (HasMonthDay r f (d - 1) (n - d) d → ⊥) → IsOnDate r start day → ⊥
  not_month_day = grind (arith, ints)

  pub not_weekday : (HasWeekday r start day (d - 1) (n - d) → ⊥) → IsOnDate r start day → ⊥
  not_weekday = grind (arith, ints)

  pub on_date : {fm fd : ℕ} → fm ≡ month_of start → fd ≡ day_of_month start → HasMonth r fm m → HasMonthDay r fd (d - 1) (n - d) d
      → HasWeekday r start day (d - 1) (n - d) → IsInWeek r day → IsOnYearDay r day → IsOnDate r start day
  on_date first_month first month month_day weekday week year_day = grind (arith, ints, floors)

pub ruleset fourth = (to_z-of_z, fourth_is)
