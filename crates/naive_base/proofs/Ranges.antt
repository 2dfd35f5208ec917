-- The days of the years in range, and the seconds.
use Rattle.naive_base.proofs.Words.{IsDate, IsDayInRange, IsInRange, IsInnerDay, IsInnerYear, IsWideDay, IsWideYear, IsYearInRange, arith, date_between}
use Rattle.naive_base.proofs.Words.{day_number, days_in_year, floors, lies_in, neg_ℤ, pos, starts_rise, year_of, year_start, year_step, ℕ, ℤ, ◌+ℤ◌, ◌-ℤ◌, ◌<ℤ◌}
use Rattle.naive_base.proofs.Words.{◌<◌, ◌≤ℤ◌, ◌⊎◌}

-- the days of the years from a to b are those from the start of a on, and before the start of the year after b
years_between : (a b day : ℤ) → year_start a ≤ℤ day → day <ℤ year_start (b +ℤ pos 1) → (a ≤ℤ year_of day) × (year_of day ≤ℤ b)
years_between a b day from to =
    let lies = lies_in day in (grind (arith, floors, starts_rise (year_of day +ℤ pos 1) a), grind (arith, floors, starts_rise (b +ℤ pos 1) (year_of day)))

pub years_in_range : (day : ℤ) → IsDayInRange day → IsYearInRange (year_of day)
unfolding year_start
years_in_range day within = years_between (neg_ℤ (pos 262_143)) (pos 262_142) day within.0 (omega (arith, floors))

pub inner_years : (day : ℤ) → IsInnerDay day → IsInnerYear (year_of day)
unfolding year_start
inner_years day within = years_between (neg_ℤ (pos 262_142)) (pos 262_141) day within.0 (omega (arith, floors))

-- the days of the years from -262144 to 262143
pub year_within : (day : ℤ) → neg_ℤ (pos 96_465_658) ≤ℤ day → day <ℤ pos 95_026_602 → IsWideYear (year_of day)
unfolding year_start
year_within day from to = years_between (neg_ℤ (pos 262_144)) (pos 262_143) day from to

pub wide_year : (day : ℤ) → IsWideDay day → IsWideYear (year_of day)
wide_year day wide = year_within day (omega (arith, floors, wide.0)) (omega (arith, floors, wide.1))

pub days_in_range : (day : ℤ) → IsYearInRange (year_of day) → IsDayInRange day
unfolding year_start
days_in_range day fits = let lies = lies_in day in (omega (arith, floors), omega (arith, floors))

pub inner_days : (day : ℤ) → IsInnerYear (year_of day) → IsInnerDay day
unfolding year_start
inner_days day fits = let lies = lies_in day in (omega (arith, floors), omega (arith, floors))

pub date_in_years : (y : ℤ) (m d : ℕ) → IsYearInRange y → IsDate y m d → IsDayInRange (day_number y m d)
unfolding year_start
date_in_years y m d fits date = grind (arith, floors, date_between (neg_ℤ (pos 262_143)) (pos 262_142) y m d fits.0 fits.1 date)

-- the days of the inner years are those between
pub inner_day : (y : ℤ) (m d : ℕ) → IsInnerYear y → IsDate y m d → IsInnerDay (day_number y m d)
unfolding year_start
inner_day y m d fits date = grind (arith, floors, date_between (neg_ℤ (pos 262_142)) (pos 262_141) y m d fits.0 fits.1 date)

-- a day away from a date of the inner years is still in range
pub inner_date : (y : ℤ) (m d : ℕ) → IsInnerYear y → IsDate y m d
    → IsDayInRange (day_number y m d -ℤ pos 1) × IsDayInRange (day_number y m d +ℤ pos 1)
inner_date y m d fits date = grind (arith, floors, inner_day y m d fits date)

pub day_in_years : (y : ℤ) (n : ℕ) → IsYearInRange y → n < days_in_year y → IsDayInRange (year_start y +ℤ pos n)
unfolding year_start
day_in_years y n h k = let step = year_step y in (omega (arith, floors), omega (arith, floors))

pub inner_day_in_years : (y : ℤ) (n : ℕ) → IsInnerYear y → n < days_in_year y → IsInnerDay (year_start y +ℤ pos n)
unfolding year_start
inner_day_in_years y n h k = let step = year_step y in (omega (arith, floors), omega (arith, floors))

pub in_range_or_not : (s : ℤ) → IsInRange s ⊎ (IsInRange s → ⊥)
in_range_or_not s = grind (arith, floors)
