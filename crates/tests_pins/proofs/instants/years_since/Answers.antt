use Rattle.tests_pins.proofs.{Words.{arith, date_only, inl, inr, ints, neg_ℤ, pos, refl}, Computed.{calendar}}
use Rattle.tests_pins.proofs.PassedYears.{are_apart, are_less, years_apart, years_less}
use Rattle.tests_pins.proofs.instants.years_since.Goals as goal

pub returns : goal.returns
unfolding calendar
returns c =
    let leap_day = date_only (pos 11_016) (pos 2000) 2 29 (omega arith, omega arith, omega arith, omega arith) refl in
    let next_leap_day = date_only (pos 12_477) (pos 2004) 2 29 (omega arith, omega arith, omega arith, omega arith) refl in
    let february_1999 = date_only (pos 10_650) (pos 1999) 2 28 (omega arith, omega arith, omega arith, omega arith) refl in record {
      four = λ n h. let is = years_apart _ _ (pos 2004) (pos 2000) h.0 next_leap_day.0 leap_day.0
          (λ early. let e = rw (next_leap_day.1, next_leap_day.2, leap_day.1, leap_day.2) at early in omega (arith, e)) h.1 in
          grind (arith, ints, is, h);
      none = λ n h. let is = years_less _ _ (pos 1999) (pos 2000) h.0 february_1999.0 leap_day.0
          (rw (february_1999.1, february_1999.2, leap_day.1, leap_day.2) (inr (refl, inl (omega arith)))) h.1 in
          grind (arith, ints, is, h);
      is_four = (
        pos 4,
        are_apart _ _ (pos 2004) (pos 2000) (pos 4) next_leap_day.0 leap_day.0
            (λ early. let e = rw (next_leap_day.1, next_leap_day.2, leap_day.1, leap_day.2) at early in omega (arith, e)) refl,
        (omega arith, refl),
      );
      is_none = (
        neg_ℤ (pos 2),
        are_less _ _ (pos 1999) (pos 2000) (neg_ℤ (pos 2)) february_1999.0 leap_day.0
            (rw (february_1999.1, february_1999.2, leap_day.1, leap_day.2) (inr (refl, inl (omega arith)))) refl,
        λ h. omega (arith, h),
      );
    }
