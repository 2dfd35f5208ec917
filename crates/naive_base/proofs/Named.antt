-- Days of ISO weeks, and the n-th weekday of a month.
use Rattle.naive_base.proofs.Words.{IsDate, IsDateOf, IsDateOfDay, IsDayInRange, IsDayOfIsoWeek, IsThursdayOfWeek, IsWeekdayOfMonth, IsYearInRange, MatchOption}
use Rattle.naive_base.proofs.Words.{NaiveDate, None, Option, Some, Weekday, arith, date_is, date_only, day_number, day_of, day_of_month, day_of_year}
use Rattle.naive_base.proofs.Words.{day_of_year_is, days_in_year, false, floors, is_earlier_in_year, lies_in, month_of, number_at, one_year, pos, refl, true}
use Rattle.naive_base.proofs.Words.{weekday_later, weekday_number, weekday_of, whole_years, year_of, year_start, year_step, ℕ, ℤ, ◌%◌, ◌*◌, ◌+ℤ◌, ◌+◌, ◌-ℤ◌}
use Rattle.naive_base.proofs.Words.{◌-◌, ◌<◌, ◌≡◌, ◌≤◌}
use Rattle.std.proofs.lemmas.Int.{ints}

-- the day of the month of the n-th weekday w, if the month begins on the weekday f
abbrev pub nth_day : ℕ → ℕ → ℕ → ℕ
nth_day f w n = (w + 7 - f) % 7 + 7 * (n - 1) + 1

pub found_nth : (y : ℤ) (m w n : ℕ) → w < 7 → 1 ≤ n
    → IsDate y m (nth_day (weekday_of (day_number y m 1)) w n)
    → IsWeekdayOfMonth y m w n (day_number y m (nth_day (weekday_of (day_number y m 1)) w n))
found_nth y m w n h k date =
    let d = nth_day (weekday_of (day_number y m 1)) w n in grind (arith, number_at, date_only (day_number y m d) y m d date refl)

-- which has that day of the month, and the calendar has the date
pub only_nth : (y : ℤ) (m w n : ℕ) (day : ℤ) → IsWeekdayOfMonth y m w n day
    → IsDate y m (nth_day (weekday_of (day_number y m 1)) w n) × IsDate y m 1 × (1 ≤ n)
only_nth y m w n day h = grind (arith, date_is, weekday_later, number_at)

-- the place in its year of the Thursday of the n-th week, if the year begins on the weekday f
abbrev pub thursday_place : ℕ → ℕ → ℕ
thursday_place f n = (11 - f) % 7 + 7 * (n - 1)

in_place : (y : ℤ) (p : ℕ) → p < days_in_year y → (year_of (year_start y +ℤ pos p) ≡ y) × (day_of_year (year_start y +ℤ pos p) ≡ p)
in_place y p h =
    let t = year_start y +ℤ pos p in let step = year_step y in
    grind (arith, floors, one_year t (year_of t) y (lies_in t) (omega (arith, floors), omega (arith, floors)), day_of_year_is t)

pub found_thursday : (y : ℤ) (n : ℕ) → 1 ≤ n → thursday_place (weekday_of (year_start y)) n < days_in_year y
    → IsThursdayOfWeek y n (year_start y +ℤ pos (thursday_place (weekday_of (year_start y)) n))
found_thursday y n h k = grind (arith, in_place y (thursday_place (weekday_of (year_start y)) n) k)

pub only_thursday : (y : ℤ) (n : ℕ) (t : ℤ) → IsThursdayOfWeek y n t
    → (1 ≤ n) × (thursday_place (weekday_of (year_start y)) n < days_in_year y)
    × (year_start y +ℤ pos (thursday_place (weekday_of (year_start y)) n) ≡ t)
only_thursday y n t h = grind (arith, floors, day_of_year_is t)

pub number_below : (w : Weekday) → weekday_number w < 7
number_below w = grind arith

-- a week that begins on the weekday w
pub week_start : (day f : ℤ) (w : ℕ) → w < 7 → f +ℤ pos ((weekday_of day + 7 - w) % 7) ≡ day → weekday_of f ≡ w
week_start day f w h e = grind arith

-- Whole years by the two cases of the month and the day.

pub years_early : (day base : ℤ) → is_earlier_in_year (month_of day) (day_of_month day) (month_of base) (day_of_month base) ≡ true
    → whole_years day base ≡ year_of day -ℤ year_of base -ℤ pos 1
years_early day base e = rw e refl

pub years_late : (day base : ℤ) → is_earlier_in_year (month_of day) (day_of_month day) (month_of base) (day_of_month base) ≡ false
    → whole_years day base ≡ year_of day -ℤ year_of base -ℤ pos 0
years_late day base e = rw e refl

-- The answers of the calls.

pub nth_answer : (y : ℤ) (m w n : ℕ) (answer : Option NaiveDate) → w < 7 → 1 ≤ n
    → IsDateOf y m (nth_day (weekday_of (day_number y m 1)) w n) answer
    → MatchOption answer (IsYearInRange y → (day : ℤ) → IsWeekdayOfMonth y m w n day → ⊥)
    (λ d. IsYearInRange y × IsWeekdayOfMonth y m w n (day_of d))
nth_answer y m w n answer h k is = grind (arith, found_nth y m w n h k, only_nth y m w n)

pub iso_answer : (y : ℤ) (n w : ℕ) (t day : ℤ) (answer : Option NaiveDate) → w < 7 → IsThursdayOfWeek y n t
    → day ≡ t -ℤ pos 3 +ℤ pos ((w + 6) % 7) → IsDateOfDay day answer
    → MatchOption answer ((other : ℤ) → IsDayInRange other → IsDayOfIsoWeek y n w other → ⊥)
    (λ d. IsDayInRange (day_of d) × IsDayOfIsoWeek y n w (day_of d))
iso_answer y n w t day (Some d) h k e is = grind (arith, ints)
iso_answer y n w t day None h k e is = λ other inside in_week.
    let one = only_thursday y n t k in let two = only_thursday y n in_week.thursday in_week.of_year in grind (arith, ints)
