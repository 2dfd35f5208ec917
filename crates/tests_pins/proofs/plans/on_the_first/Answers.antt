use Rattle.tests_pins.proofs.{Words.{arith, date_only, pos, refl}, Computed.{calendar}}
use Rattle.tests_pins.proofs.plans.on_the_first.Goals as goal

pub returns-clause-first : goal.returns-clause-first
unfolding calendar
returns-clause-first c d is =
    let date = date_only (pos 18_687) (pos 2021) 3 1 (omega arith, omega arith, omega arith, omega arith) refl in record {
      on = record { month = rw date.1 is.march; listed = rw is.not_either (rw date.2 ((is.days 1).1 refl), is.monday) };
      whole = refl;
      at = record { in_hour = (is.hours 14).1 refl; in_minute = (is.minutes 15).1 refl };
    }

pub returns-clause-second : goal.returns-clause-second
unfolding calendar
returns-clause-second c d is on =
    let date = date_only (pos 18_688) (pos 2021) 3 2 (omega arith, omega arith, omega arith, omega arith) refl in
    let listed = rw is.not_either at on.listed in let day = (is.days 2).0 (rw date.2 at listed.0) in omega arith
