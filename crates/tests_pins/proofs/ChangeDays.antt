-- Days of clock changes, as dates.
use Rattle.tests_pins.proofs.{Words.{arith, date_only, day_of_month, month_of, pos, refl, year_of, ◌≡◌}, Computed.{calendar}}

-- 2007-03-11 and 2021-03-14
pub march_2007 : (year_of (pos 13_583) ≡ pos 2007) × (month_of (pos 13_583) ≡ 3) × (day_of_month (pos 13_583) ≡ 11)
unfolding calendar
march_2007 = date_only (pos 13_583) (pos 2007) 3 11 (omega arith, omega arith, omega arith, omega arith) refl

pub march_2021 : (year_of (pos 18_700) ≡ pos 2021) × (month_of (pos 18_700) ≡ 3) × (day_of_month (pos 18_700) ≡ 14)
unfolding calendar
march_2021 = date_only (pos 18_700) (pos 2021) 3 14 (omega arith, omega arith, omega arith, omega arith) refl
