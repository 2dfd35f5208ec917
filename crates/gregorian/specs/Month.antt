-- The months of a year, which is a leap year or is not. January is month 1.
use Rattle.std.specs.Prelude.{ℕ, zero, suc, ◌+◌, ◌==◌, Bool, ◌||◌, if◌then◌else◌}

-- thirty days have April, June, September and November
abbrev pub days_in_month : Bool → ℕ → ℕ
days_in_month leap m =
    if m == 2 then (if leap then 29 else 28)
    else (if (m == 4) || (m == 6) || (m == 9) || (m == 11) then 30 else 31)

-- the days of the first n months
unfoldable pub days_of_months : Bool → ℕ → ℕ
days_of_months leap zero = 0
days_of_months leap (suc n) = days_of_months leap n + days_in_month leap (suc n)
