use Rattle.tests_pins.proofs.{Words.{arith, date_only, day_of_year_is, ints, pos, refl}, Computed.{calendar}}
use Rattle.tests_pins.proofs.plans.beginnings_of_weeks_and_months.Goals as goal

pub returns-clause-first : goal.returns-clause-first
unfolding calendar
returns-clause-first c =
    let date = date_only (pos 18_687) (pos 2021) 3 1 (omega arith, omega arith, omega arith, omega arith) refl in record { on = date.2; at = refl }

pub returns-clause-second : goal.returns-clause-second
unfolding calendar
returns-clause-second c h =
    let date = date_only (pos 18_688) (pos 2021) 3 2 (omega arith, omega arith, omega arith, omega arith) refl in
    let on = h.on in let day = date.2 in omega (arith, on, day)

pub returns-clause-january : goal.returns-clause-january
unfolding calendar
returns-clause-january c =
    let date = date_only (pos 18_628) (pos 2021) 1 1 (omega arith, omega arith, omega arith, omega arith) refl in
    let own = (day_of_year_is (pos 18_628)).0 in record { on = let is = rw date.0 at own in omega (arith, ints, is); at = refl }

pub returns-clause-not_the_second : goal.returns-clause-not_the_second
unfolding calendar
returns-clause-not_the_second c h =
    let date = date_only (pos 18_629) (pos 2021) 1 2 (omega arith, omega arith, omega arith, omega arith) refl in
    let own = (day_of_year_is (pos 18_629)).0 in let is = rw date.0 at own in let on = h.on in omega (arith, ints, is, on)
