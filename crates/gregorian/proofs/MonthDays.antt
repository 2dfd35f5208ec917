-- The days before a month, counted from January and, where March is month 3 and the next February month 14, from March.
use Rattle.std.proofs.Common.{◌≡◌, ℕ, zero, suc, ◌+◌, ◌-◌, ◌*◌, ◌/◌, ◌<◌, ◌≤◌, Bool, cond, arith}
use Rattle.gregorian.specs.Month.{days_in_month, days_of_months}

-- the days from 1 March to the first of a month from 3 to 14
abbrev pub march_months : ℕ → ℕ
march_months m = (153 * m - 457) / 5

-- how many leap days a year has
abbrev pub leap_day : Bool → ℕ
leap_day leap = cond leap 1 0

pub leap_at_most : (b : Bool) → leap_day b ≤ 1
leap_at_most b = grind arith

-- January and February, as the months 13 and 14
pub months_early : (b : Bool) (m : ℕ) → 1 ≤ m → m ≤ 2 → days_of_months b (m - 1) + 306 ≡ march_months (m + 12)
unfolding days_of_months
months_early b m low high = grind arith

month_step : (b : Bool) (k : ℕ) → k < 10 → march_months (k + 4) ≡ march_months (k + 3) + days_in_month b (suc (suc (suc k)))
month_step b k h = grind arith

from_march : (b : Bool) (k : ℕ) → k < 11 → days_of_months b (suc (suc k)) ≡ march_months (k + 3) + 59 + leap_day b
unfolding days_of_months
from_march b zero h = grind arith
from_march b (suc k) h = let same : suc k + 3 ≡ k + 4 = omega arith in rw same (omega (arith, from_march b k (omega arith), month_step b k (omega arith)))

-- the months from March on lie after a January and a February
pub months_late : (b : Bool) (m : ℕ) → 3 ≤ m → m ≤ 13 → days_of_months b (m - 1) ≡ march_months m + 59 + leap_day b
months_late b m low high = grind (arith, from_march b (m - 3) (omega arith))

-- the days before a month, as the code has them
pub before_early : (b : Bool) (m : ℕ) → 1 ≤ m → m ≤ 2 → 31 * (m - 1) ≡ days_of_months b (m - 1)
before_early b m low high = grind (arith, months_early)

pub before_late : (b : Bool) (m : ℕ) → 3 ≤ m → m ≤ 12
    → (979 * m - 2919) / 32 + 59 + leap_day b ≡ days_of_months b (m - 1)
before_late b m low high = grind (arith, months_late)

pub month_bounds : (b : Bool) (m : ℕ) → (28 ≤ days_in_month b m) × (days_in_month b m ≤ 31)
month_bounds b m = grind arith

pub ruleset before_month = (leap_day, before_early, before_late)
