-- Days counted from 1 March of the base year -2147484000, a multiple of 400, or from the 1 January 306 days after it.
use Rattle.std.proofs.Common.{◌≡◌, ℕ, suc, ◌+◌, ◌<◌, ◌≤◌, arith, ℤ, pos, ◌+ℤ◌, ◌-ℤ◌}
use Rattle.gregorian.specs.{Year.{is_leap, days_in_year, year_start, LiesIn}, Date.{day_number}, Steps.Cycle.{days_of_years, number_from_march}}
use Rattle.gregorian.proofs.{Floor.{floors}, YearLaws.{year_step}, MonthDays.{leap_day, months_early, months_late}}

-- the n-th year from that January on
next_start : (y : ℤ) (n : ℕ) → y +ℤ pos 2_147_484_000 ≡ pos n
    → year_start (y +ℤ pos 1) +ℤ pos 784_353_144_032 ≡ pos (days_of_years n)
unfolding year_start
next_start y n e = omega (arith, floors)

-- a year's days by its leap day
pub days_with_leap : (y : ℤ) → days_in_year y ≡ 365 + leap_day (is_leap y)
days_with_leap y = grind arith

-- a date from March on
pub number_late : (y : ℤ) (n m d : ℕ) → y +ℤ pos 2_147_484_000 ≡ pos n → 3 ≤ m → m ≤ 12 → 1 ≤ d
    → day_number y m d +ℤ pos 784_353_144_338 ≡ pos (number_from_march n m d)
unfolding day_number
number_late y n m d e low high first =
    omega (arith, floors, next_start y n e, year_step y, days_with_leap y, months_late (is_leap y) m low (omega arith))

-- a date before March lies in the year before
pub number_early : (y : ℤ) (n m d : ℕ) → y +ℤ pos 2_147_484_000 ≡ pos (suc n) → 1 ≤ m → m ≤ 2 → 1 ≤ d
    → day_number y m d +ℤ pos 784_353_144_338 ≡ pos (number_from_march n (m + 12) d)
unfolding day_number
number_early y n m d e low high first = grind (arith, next_start (y -ℤ pos 1) n (omega (arith, floors)), months_early (is_leap y) m low high)

-- a year start, from that January on
pub january_start : (y : ℤ) (n : ℕ) → y +ℤ pos 2_147_484_000 ≡ pos (suc n)
    → year_start y +ℤ pos 784_353_144_032 ≡ pos (days_of_years n)
january_start y n e = grind (arith, next_start (y -ℤ pos 1) n (omega (arith, floors)))

-- a day that whole years and some days after that January lie before it, fewer than a year more, lies in the next year
pub year_found : (day y : ℤ) (n passed k : ℕ) → day +ℤ pos 784_353_144_032 ≡ pos k → days_of_years n + passed ≡ k
    → k < days_of_years (n + 1) → y +ℤ pos 2_147_484_000 ≡ pos (n + 1) → LiesIn day y
year_found day y n passed k e f below g = grind (arith, january_start y n (omega (arith, floors)), january_start (y +ℤ pos 1) (n + 1) (omega (arith, floors)))
