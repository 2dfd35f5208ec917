use Rattle.tests_pins.proofs.{Words.{arith, date_only, inl, inr, pos, refl, ◌%◌, ◌/◌}, Computed.{calendar}}
use Rattle.tests_pins.proofs.plans.also_on_fridays.Goals as goal

pub returns-clause-fifteenth : goal.returns-clause-fifteenth
unfolding calendar
returns-clause-fifteenth c d is =
    let date = date_only (pos 18_701) (pos 2021) 3 15 (omega arith, omega arith, omega arith, omega arith) refl in record {
      on = record { month = rw date.1 is.march; listed = rw is.either (inl (rw date.2 ((is.days 15).1 (inr refl)))) };
      whole = refl;
      at = record { in_hour = (is.hours 4).1 refl; in_minute = (is.minutes 30).1 refl };
    }

pub returns-clause-friday : goal.returns-clause-friday
unfolding calendar
returns-clause-friday c d is =
    let date = date_only (pos 18_705) (pos 2021) 3 19 (omega arith, omega arith, omega arith, omega arith) refl in record {
      on = record { month = rw date.1 is.march; listed = rw is.either (inr ((is.weekdays 5).1 refl)) };
      whole = refl;
      at = record { in_hour = (is.hours 4).1 refl; in_minute = (is.minutes 30).1 refl };
    }

pub returns-clause-sunday : goal.returns-clause-sunday
unfolding calendar
returns-clause-sunday c d is on =
    let date = date_only (pos 18_700) (pos 2021) 3 14 (omega arith, omega arith, omega arith, omega arith) refl in
    elim (rw is.either at on.listed) [
      | inl month ↦ let listed = (is.days 14).0 (rw date.2 at month) in elim listed [ inl first ↦ omega arith | inr other ↦ omega arith ]
      | inr week ↦ let listed = (is.weekdays 0).0 week in omega arith
    ]

pub returns-clause-only : goal.returns-clause-only
returns-clause-only c d second is time =
    let hour = (is.hours (second / 60 / 60)).0 time.at.in_hour in let minute = (is.minutes (second / 60 % 60)).0 time.at.in_minute in
    let whole = time.whole in omega (arith, hour, minute, whole)
