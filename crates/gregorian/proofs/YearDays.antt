-- What decides a year's calendar, by centuries and years after a January.
use Rattle.std.proofs.Common.{◌≡◌, ℕ, ◌+◌, ◌*◌, ◌/◌, ◌%◌, ◌<◌, arith, ◌==◌, not, ◌&&◌, ◌||◌, ℤ, pos, ◌+ℤ◌, ◌-ℤ◌}
use Rattle.gregorian.specs.{Year.{is_leap, year_start}, DateOf.{year_of}, Steps.Cycle.{days_of_years}, Weekdays.{weekday_of}}
use Rattle.gregorian.proofs.{Floor.{floors}, Cycle.{january_start, year_found}, YearLaws.{one_year, lies_in}}

pub leap_by : (y : ℤ) (c n : ℕ) → n < 100 → y +ℤ pos 2_147_484_000 ≡ pos (100 * c + n + 1) → is_leap y ≡ ((n % 4 == 3) && (not (n == 99) || (c % 4 == 3)))
leap_by y c n h e = grind arith

pub first_by : (y : ℤ) (c n : ℕ) → n < 100 → y +ℤ pos 2_147_484_000 ≡ pos (100 * c + n + 1) → weekday_of (year_start y) ≡ (5 * (c % 4) + n + n / 4 + 1) % 7
first_by y c n h e = let start = january_start y (100 * c + n) (omega (arith, floors)) in grind arith

-- the year of the day that lies there
pub own_year : (day : ℤ) (c n passed k : ℕ) → day +ℤ pos 784_353_144_032 ≡ pos k → days_of_years (100 * c + n) + passed ≡ k
    → k < days_of_years (100 * c + n + 1)
    → year_of day +ℤ pos 2_147_484_000 ≡ pos (100 * c + n + 1)
own_year day c n passed k e f below =
    let y = pos (100 * c + n + 1) -ℤ pos 2_147_484_000 in
    let lies = year_found day y (100 * c + n) passed k e f below (omega (arith, floors)) in
    rw (← one_year day y (year_of day) lies (lies_in day)) (omega (arith, floors))
