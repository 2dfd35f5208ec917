use Rattle.tests_pins.proofs.{Words.{arith, date_only, inl, inr, ints, pos, refl}, Computed.{calendar}}
use Rattle.tests_pins.proofs.PassedMonths.{not_passed, passed_before, passed_late}
use Rattle.tests_pins.specs.Instants.{noon}
use Rattle.tests_pins.proofs.lengths.months_passed.Goals as goal

pub returns : goal.returns
unfolding calendar
returns c =
    let january = date_only (pos 18_658) (pos 2021) 1 31 (omega arith, omega arith, omega arith, omega arith) refl in
    let february = date_only (pos 18_686) (pos 2021) 2 28 (omega arith, omega arith, omega arith, omega arith) refl in
    let march = date_only (pos 18_687) (pos 2021) 3 1 (omega arith, omega arith, omega arith, omega arith) refl in
    let leap_day = date_only (pos 18_321) (pos 2020) 2 29 (omega arith, omega arith, omega arith, omega arith) refl in
    let middle = date_only (pos 18_642) (pos 2021) 1 15 (omega arith, omega arith, omega arith, omega arith) refl in
    let next_middle = date_only (pos 18_673) (pos 2021) 2 15 (omega arith, omega arith, omega arith, omega arith) refl in record {
      short = not_passed (noon (pos 2021) 2 28 0) (noon (pos 2021) 1 31 0) 1 (rw (january.0, january.1, february.0, february.1) refl) (rw (january.2, february.2) (inl (omega arith)));
      next = passed_before (noon (pos 2021) 3 1 0) (noon (pos 2021) 1 31 0) 1 (rw (january.0, january.1, march.0, march.1) (omega (arith, ints)));
      not_two = not_passed (noon (pos 2021) 3 1 0) (noon (pos 2021) 1 31 0) 2 (rw (january.0, january.1, march.0, march.1) refl) (rw (january.2, march.2) (inl (omega arith)));
      eleven = passed_before (noon (pos 2021) 2 28 0) (noon (pos 2020) 2 29 0) 11 (rw (leap_day.0, leap_day.1, february.0, february.1) (omega (arith, ints)));
      not_twelve = not_passed (noon (pos 2021) 2 28 0) (noon (pos 2020) 2 29 0) 12 (rw (leap_day.0, leap_day.1, february.0, february.1) refl) (rw (leap_day.2, february.2) (inl (omega arith)));
      twelve = passed_before (noon (pos 2021) 3 1 0) (noon (pos 2020) 2 29 0) 12 (rw (leap_day.0, leap_day.1, march.0, march.1) (omega (arith, ints)));
      noon_comes = passed_late (noon (pos 2021) 2 15 1) (noon (pos 2021) 1 15 1) 1 (rw (middle.0, middle.1, next_middle.0, next_middle.1) refl)
          (λ early. let e = rw (middle.2, next_middle.2) at early in omega (arith, e));
      before_noon = not_passed (noon (pos 2021) 2 15 0) (noon (pos 2021) 1 15 1) 1 (rw (middle.0, middle.1, next_middle.0, next_middle.1) refl)
          (rw (middle.2, next_middle.2) (inr (refl, inl (omega arith))));
    }
