use Rattle.tests_pins.proofs.{Words.{arith, pos, refl}, Computed.{calendar}, Weeks.{first_week, is_week, week_is}}
use Rattle.tests_pins.proofs.calendar.weeks.Goals as goal

pub returns : goal.returns
unfolding calendar
returns c = record {
  friday = λ week w. week_is (pos 18_628) (pos 18_627) (pos 2020) 365 week (refl, omega arith, omega arith) (omega arith, omega arith) refl w;
  sunday = λ week w. week_is (pos 18_630) (pos 18_627) (pos 2020) 365 week (refl, omega arith, omega arith) (omega arith, omega arith) refl w;
  monday = λ week w. week_is (pos 17_896) (pos 17_899) (pos 2019) 2 week (refl, omega arith, omega arith) (omega arith, omega arith) refl w;
  is_friday = λ week of_year number.
      is_week (pos 18_628) (pos 18_627) (pos 2020) 365 week (refl, omega arith, omega arith) (omega arith, omega arith) refl of_year number;
  is_monday = λ week of_year number.
      is_week (pos 17_896) (pos 17_899) (pos 2019) 2 week (refl, omega arith, omega arith) (omega arith, omega arith) refl of_year number;
  fourth_of_january = first_week;
}
