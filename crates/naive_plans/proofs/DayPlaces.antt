-- Places of days in their weeks, months and years.
use Rattle.std.proofs.{Common.{Bool}, Math.Nat.{mul-le-mul_right}}
use Rattle.naive_base.proofs.Words.{arith, date_is, date_only, day_of_month, day_of_year, day_of_year_is, days_in_month, days_in_year, floor_mod, floors}
use Rattle.naive_base.proofs.Words.{ints, is_leap, month_of, nat_tests, number_at, pos, unsigned_abs, weekday_of, year_of, ℕ, ℤ, ◌%◌, ◌*◌, ◌+ℤ◌, ◌+◌}
use Rattle.naive_base.proofs.Words.{◌-ℤ◌, ◌-◌, ◌<ℤ◌, ◌<◌, ◌≡◌, ◌≤ℤ◌, ◌≤◌, ◌⊎◌}

pub least_days : (b : Bool) (m : ℕ) → 1 ≤ days_in_month b m
least_days = grind (arith, nat_tests)

-- a day in the month of another one
pub in_same_month : (day d : ℤ) → (day -ℤ pos (day_of_month day)) <ℤ d
    → d ≤ℤ (day +ℤ pos (days_in_month (is_leap (year_of day)) (month_of day) - day_of_month day))
    → (month_of d ≡ month_of day) × (pos (day_of_month d) ≡ d -ℤ day +ℤ pos (day_of_month day))
in_same_month day d after come =
    let own = date_is day in let k : ℕ = unsigned_abs (d -ℤ (day -ℤ pos (day_of_month day))) in let first : 1 ≤ k = omega (arith, ints) in
    let date = date_only d (year_of day) (month_of day) k (own.0.0, own.0.1, first, omega (arith, ints))
    (omega (arith, ints, number_at (year_of day) (month_of day) k first, number_at (year_of day) (month_of day) (day_of_month day) own.0.2)) in
    (date.1, omega (arith, ints))

pub multiples_apart : (n t k : ℕ) → (k * n ≤ t * n) ⊎ ((t + 1) * n ≤ k * n)
multiples_apart = grind (arith, ints, mul-le-mul_right)

pub passed_of_week : (day : ℤ) (weekday number first : ℕ) → weekday ≡ weekday_of day → number ≡ first → number < 7
    → (weekday + 7 - number) % 7 ≡ floor_mod (day +ℤ pos 4 -ℤ pos first) 7
passed_of_week = omega (arith, floors, ints)

pub before_end : (day year : ℤ) (before days : ℕ) → year ≡ year_of day → before ≡ day_of_year day → days ≡ days_in_year year → before ≤ days - 1
before_end day year before days is same all = let within = (day_of_year_is day).1 in let of_year : days ≡ days_in_year (year_of day) = rw is at all in
    omega arith
