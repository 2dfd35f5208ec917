use Rattle.tests_pins.proofs.{Words.{arith, date_only, ints, pos, refl}, Computed.{calendar}}
use Rattle.tests_pins.proofs.days.first_days.Goals as goal

pub returns-clause-month : goal.returns-clause-month
unfolding calendar
returns-clause-month c = grind (arith, ints, date_only (pos 18_703) (pos 2021) 3 17 (omega arith, omega arith, omega arith, omega arith) refl)

pub returns-clause-year : goal.returns-clause-year
unfolding calendar
returns-clause-year c = rw (date_only (pos 18_703) (pos 2021) 3 17 (omega arith, omega arith, omega arith, omega arith) refl).0 refl
