use Rattle.tests_pins.proofs.{Words.{arith, date_only, inl, inr, neg_ℤ, pos, refl}, Computed.{calendar}}
use Rattle.tests_pins.proofs.PassedYears.{are_apart, are_less, years_apart, years_less}
use Rattle.tests_pins.proofs.instants.years.Goals as goal

pub returns : goal.returns
unfolding calendar
returns c =
    let leap_day = date_only (pos 11_016) (pos 2000) 2 29 (omega arith, omega arith, omega arith, omega arith) refl in
    let next_leap_day = date_only (pos 12_477) (pos 2004) 2 29 (omega arith, omega arith, omega arith, omega arith) refl in
    let february_2001 = date_only (pos 11_381) (pos 2001) 2 28 (omega arith, omega arith, omega arith, omega arith) refl in
    let march_2001 = date_only (pos 11_382) (pos 2001) 3 1 (omega arith, omega arith, omega arith, omega arith) refl in
    let february_1999 = date_only (pos 10_650) (pos 1999) 2 28 (omega arith, omega arith, omega arith, omega arith) refl in record {
      day_before = λ n h. years_less _ _ (pos 2001) (pos 2000) n february_2001.0 leap_day.0
          (rw (february_2001.1, february_2001.2, leap_day.1, leap_day.2) (inr (refl, inl (omega arith)))) h;
      first_of_march = λ n h. years_apart _ _ (pos 2001) (pos 2000) n march_2001.0 leap_day.0
          (λ early. let e = rw (march_2001.1, march_2001.2, leap_day.1, leap_day.2) at early in omega (arith, e)) h;
      second_before = λ n h. years_less _ _ (pos 2004) (pos 2000) n next_leap_day.0 leap_day.0
          (rw (next_leap_day.1, next_leap_day.2, leap_day.1, leap_day.2) (inr (refl, inr (refl, inl (omega arith))))) h;
      same_time = λ n h. years_apart _ _ (pos 2004) (pos 2000) n next_leap_day.0 leap_day.0
          (λ early. let e = rw (next_leap_day.1, next_leap_day.2, leap_day.1, leap_day.2) at early in omega (arith, e)) h;
      backwards = λ n h. years_less _ _ (pos 1999) (pos 2000) n february_1999.0 leap_day.0
          (rw (february_1999.1, february_1999.2, leap_day.1, leap_day.2) (inr (refl, inl (omega arith)))) h;
      is_none = are_less _ _ (pos 2001) (pos 2000) (pos 0) february_2001.0 leap_day.0
          (rw (february_2001.1, february_2001.2, leap_day.1, leap_day.2) (inr (refl, inl (omega arith)))) refl;
      is_one = are_apart _ _ (pos 2001) (pos 2000) (pos 1) march_2001.0 leap_day.0
          (λ early. let e = rw (march_2001.1, march_2001.2, leap_day.1, leap_day.2) at early in omega (arith, e)) refl;
      is_three = are_less _ _ (pos 2004) (pos 2000) (pos 3) next_leap_day.0 leap_day.0
          (rw (next_leap_day.1, next_leap_day.2, leap_day.1, leap_day.2) (inr (refl, inr (refl, inl (omega arith))))) refl;
      is_four = are_apart _ _ (pos 2004) (pos 2000) (pos 4) next_leap_day.0 leap_day.0
          (λ early. let e = rw (next_leap_day.1, next_leap_day.2, leap_day.1, leap_day.2) at early in omega (arith, e)) refl;
      is_backwards = are_less _ _ (pos 1999) (pos 2000) (neg_ℤ (pos 2)) february_1999.0 leap_day.0
          (rw (february_1999.1, february_1999.2, leap_day.1, leap_day.2) (inr (refl, inl (omega arith)))) refl;
    }
