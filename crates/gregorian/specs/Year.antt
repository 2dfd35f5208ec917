-- Years of the proleptic Gregorian calendar, over all whole numbers. A day number counts days from 1970-01-01.
use Rattle.std.specs.Prelude.{ℕ, ◌==◌, Bool, not, ◌&&◌, ◌||◌, if◌then◌else◌, ℤ, pos, neg_ℤ, ◌+ℤ◌, ◌-ℤ◌, ◌*ℤ◌, unsigned_abs, ◌≤ℤ◌, ◌<ℤ◌}
use Rattle.std.specs.Int.{int_div_euclid, int_rem_euclid}

-- the greatest whole number whose n-fold is not above z
abbrev pub floor_div : ℤ → ℕ → ℤ
floor_div z n = int_div_euclid z (pos n)

-- what that n-fold leaves of z, from 0 to n - 1
abbrev pub floor_mod : ℤ → ℕ → ℕ
floor_mod z n = unsigned_abs (int_rem_euclid z (pos n))

-- every fourth year, but of the full centuries only every fourth
abbrev pub is_leap : ℤ → Bool
is_leap y = (floor_mod y 4 == 0) && (not (floor_mod y 100 == 0) || (floor_mod y 400 == 0))

-- 365 days, and one more in a leap year
abbrev pub days_in_year : ℤ → ℕ
days_in_year y = if is_leap y then 366 else 365

-- the day number of 1 January
unfoldable pub year_start : ℤ → ℤ
year_start y =
    pos 365 *ℤ (y -ℤ pos 1970) +ℤ floor_div (y -ℤ pos 1) 4 -ℤ floor_div (y -ℤ pos 1) 100
    +ℤ floor_div (y -ℤ pos 1) 400 -ℤ pos 477

-- the day lies in the year
abbrev pub LiesIn : ℤ → ℤ → Type 0
LiesIn day y = (year_start y ≤ℤ day) × (day <ℤ year_start (y +ℤ pos 1))

-- the years that 32 bits hold, and their days
abbrev pub IsYear : ℤ → Type 0
IsYear y = (neg_ℤ (pos 2_147_483_648) ≤ℤ y) × (y ≤ℤ pos 2_147_483_647)

abbrev pub IsDay : ℤ → Type 0
IsDay day = (neg_ℤ (pos 784_353_015_833) ≤ℤ day) × (day ≤ℤ pos 784_351_576_776)
