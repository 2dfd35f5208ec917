-- Each day has one date, and each date is one day.
use Rattle.std.proofs.Common.{◌≡◌, ℕ, zero, suc, ◌+◌, ◌-◌, ◌*◌, ◌/◌, ◌%◌, ◌<◌, ◌≤◌, inl, inr, Bool, arith, ℤ, pos, ◌+ℤ◌, ◌-ℤ◌, ◌≤ℤ◌, ◌<ℤ◌}
use Rattle.std.proofs.lemmas.Bool.{cases_order}
use Rattle.gregorian.specs.{Year.{is_leap, days_in_year, year_start, LiesIn}, Month.{days_in_month, days_of_months}, Date.{IsDate, day_number}}
use Rattle.gregorian.specs.{DateOf.{date_with, year_of, day_of_year, month_of, day_of_month}, Steps.Cycle.{days_of_years}}
use Rattle.gregorian.proofs.{Floor.{floors}, YearLaws.{year_step, lies_in, one_year, starts_rise}, Cycle.{january_start, year_found}}
use Rattle.gregorian.proofs.MonthDays.{leap_day, months_early, months_late}
pub use Rattle.gregorian.specs.Steps.Dates.{months_step, months_all, place_is}

-- Later months begin later.

months_more : (b : Bool) (m k : ℕ) → days_of_months b m ≤ days_of_months b (k + m)
months_more b m zero = grind arith
months_more b m (suc k) =
    let back : suc k + m - 1 ≡ k + m = omega arith in
    omega (arith, months_more b m k, rw back at (months_step b (suc k + m) (omega arith)))

pub months_rise : (b : Bool) (m n : ℕ) → m ≤ n → days_of_months b m ≤ days_of_months b n
months_rise b m n h = let same : n - m + m ≡ n = omega arith in grind (arith, months_more)

-- a date lies in its year
pub date_lies : (y : ℤ) (m d : ℕ) → IsDate y m d → LiesIn (day_number y m d) y
unfolding day_number
date_lies y m d h =
    let step = months_step (is_leap y) m h.0 in let rise = months_rise (is_leap y) m 12 h.1 in
    grind (arith, months_all, year_step)

-- an earlier month of the year has the smaller days
month_before : (b : Bool) (m d m₂ d₂ : ℕ) → 1 ≤ m → 1 ≤ d → d ≤ days_in_month b m → m < m₂
    → days_of_months b (m - 1) + (d - 1) < days_of_months b (m₂ - 1) + (d₂ - 1)
month_before b m d m₂ d₂ low first last lt =
    omega (arith, months_step b m low, months_rise b m (m₂ - 1) (omega arith))

same_place : (b : Bool) (m d m₂ d₂ : ℕ) → 1 ≤ m → 1 ≤ d → d ≤ days_in_month b m → 1 ≤ m₂ → 1 ≤ d₂
    → d₂ ≤ days_in_month b m₂ → days_of_months b (m - 1) + (d - 1) ≡ days_of_months b (m₂ - 1) + (d₂ - 1)
    → (m ≡ m₂) × (d ≡ d₂)
same_place b m d m₂ d₂ month first last month₂ first₂ last₂ e = elim (cases_order m m₂) [
  | inl same ↦ grind arith
  | inr (inl lt) ↦ absurd (omega (arith, month_before b m d m₂ d₂ month first last lt))
  | inr (inr gt) ↦ absurd (omega (arith, month_before b m₂ d₂ m d month₂ first₂ last₂ gt))
]

places_of : (y : ℤ) (m d m₂ d₂ : ℕ) → day_number y m d ≡ day_number y m₂ d₂
    → days_of_months (is_leap y) (m - 1) + (d - 1) ≡ days_of_months (is_leap y) (m₂ - 1) + (d₂ - 1)
unfolding day_number
places_of y m d m₂ d₂ e = omega (arith, floors)

-- no two dates have one number
pub one_date : (y : ℤ) (m d : ℕ) (y₂ : ℤ) (m₂ d₂ : ℕ) → IsDate y m d → IsDate y₂ m₂ d₂
    → day_number y m d ≡ day_number y₂ m₂ d₂ → (y ≡ y₂) × (m ≡ m₂) × (d ≡ d₂)
one_date y m d y₂ m₂ d₂ h k e =
    let same = one_year (day_number y m d) y y₂ (date_lies y m d h) (rw e (date_lies y₂ m₂ d₂ k)) in
    let here : IsDate y₂ m d = rw same at h in let f : day_number y₂ m d ≡ day_number y₂ m₂ d₂ = rw same at e in
    grind (arith, same_place (is_leap y₂) m d m₂ d₂ here.0 here.2 here.3 k.0 k.2 k.3 (places_of y₂ m d m₂ d₂ f))

-- the date of a day number
pub date_is : (day : ℤ)
    → IsDate (year_of day) (month_of day) (day_of_month day)
    × (day_number (year_of day) (month_of day) (day_of_month day) ≡ day)
unfolding month_of day_of_month
date_is day =
    let own = date_with day in
    grind (arith, one_year day (year_of day) own.year (lies_in day) (rw own.number at (date_lies own.year own.month own.day own.is_date)))

-- and it is the only one
pub date_only : (day : ℤ) (y : ℤ) (m d : ℕ) → IsDate y m d → day_number y m d ≡ day
    → (year_of day ≡ y) × (month_of day ≡ m) × (day_of_month day ≡ d)
date_only day y m d h e = let own = date_is day in grind (arith, one_date)

-- the dates of the years from a to b
pub date_between : (a b y : ℤ) (m d : ℕ) → a ≤ℤ y → y ≤ℤ b → IsDate y m d
    → (year_start a ≤ℤ day_number y m d) × (day_number y m d <ℤ year_start (b +ℤ pos 1))
date_between a b y m d low high h = grind (arith, floors, date_lies y m d h, starts_rise a y low, starts_rise (y +ℤ pos 1) (b +ℤ pos 1) (omega (arith, floors)))

-- a day is its year's start and its place in the year
pub day_of_year_is : (day : ℤ)
    → (year_start (year_of day) +ℤ pos (day_of_year day) ≡ day) × (day_of_year day < days_in_year (year_of day))
unfolding day_of_year
day_of_year_is day = let lies = lies_in day in grind (arith, floors, year_step)

-- the days left over from whole years are the day's place in its year
pub place_found : (day : ℤ) (n passed k : ℕ) → day +ℤ pos 784_353_144_032 ≡ pos k → days_of_years n + passed ≡ k
    → k < days_of_years (n + 1) → passed ≡ day_of_year day
place_found day n passed k e f below =
    let y = pos (n + 1) -ℤ pos 2_147_484_000 in
    let lies = year_found day y n passed k e f below (omega (arith, floors)) in
    grind (arith, january_start y n (omega (arith, floors)), one_year day y (year_of day) lies (lies_in day), day_of_year_is day)

-- within a month the number goes with the day
pub number_at : (y : ℤ) (m d : ℕ) → 1 ≤ d → day_number y m d ≡ day_number y m 1 +ℤ pos (d - 1)
unfolding day_number
number_at y m d first = omega (arith, floors)

-- a place in the year, as the code finds it before March and from March on
pub place_early : (y : ℤ) (k : ℕ) → k < 59 + leap_day (is_leap y)
    → IsDate y (k / 31 + 1) (k % 31 + 1) × (day_number y (k / 31 + 1) (k % 31 + 1) ≡ year_start y +ℤ pos k)
unfolding day_number
place_early y k h = grind (arith, months_early)

pub place_late : (y : ℤ) (k n : ℕ) → n + 59 + leap_day (is_leap y) ≡ k → n < 306
    → IsDate y ((5 * n + 461) / 153) ((5 * n + 461) % 153 / 5 + 1)
    × (day_number y ((5 * n + 461) / 153) ((5 * n + 461) % 153 / 5 + 1) ≡ year_start y +ℤ pos k)
unfolding day_number
place_late y k n e h = grind (arith, months_late)
