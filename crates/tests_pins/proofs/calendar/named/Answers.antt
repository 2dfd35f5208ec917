use Rattle.tests_pins.proofs.{Words.{arith, date_only, ints, pos, refl}, Computed.{calendar}, Weeks.{day_of_week, not_of_year}}
use Rattle.tests_pins.proofs.calendar.named.Goals as goal

pub returns : goal.returns
unfolding calendar
returns c =
    let last_friday = date_only (pos 18_656) (pos 2021) 1 29 (omega arith, omega arith, omega arith, omega arith) refl in
    let new_year = date_only (pos 18_628) (pos 2021) 1 1 (omega arith, omega arith, omega arith, omega arith) refl in
    let leap_day = date_only (pos 11_016) (pos 2000) 2 29 (omega arith, omega arith, omega arith, omega arith) refl in
    let february = date_only (pos 11_381) (pos 2001) 2 28 (omega arith, omega arith, omega arith, omega arith) refl in
    let march = date_only (pos 11_382) (pos 2001) 3 1 (omega arith, omega arith, omega arith, omega arith) refl in record {
      fifth_friday = record { year = last_friday.0; month = last_friday.1; weekday = refl; nth = rw last_friday.2 refl };
      not_fourth = λ h. let n = rw last_friday.2 at h.nth in omega (arith, n);
      first_friday = record { year = new_year.0; month = new_year.1; weekday = refl; nth = rw new_year.2 refl };
      week_53 = day_of_week (pos 16_803) (pos 16_800) (pos 2015) 0 364 refl (refl, omega arith, omega arith) (omega arith, omega arith) refl;
      week_1 = day_of_week (pos 18_631) (pos 18_634) (pos 2021) 1 6 refl (refl, omega arith, omega arith) (omega arith, omega arith) refl;
      not_of_2016 = not_of_year (pos 16_803) (pos 16_800) (pos 2015) (pos 2016) 1 0 (refl, omega arith, omega arith)
          (omega arith, omega arith) (λ e. omega (arith, ints, e));
      no_year = rw (february.0, february.1, february.2, leap_day.0, leap_day.1, leap_day.2) refl;
      one_year = rw (march.0, march.1, leap_day.0, leap_day.1) refl;
    }
