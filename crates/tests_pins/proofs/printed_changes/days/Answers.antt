use Rattle.tests_pins.proofs.{Words.{arith, digits, escape_byte, in_digits, ints, print_from, refl, year_start, year_text}, ChangeDays.{march_2021}}
use Rattle.tests_pins.proofs.printed_changes.days.Goals as goal

pub returns-clause-begins : goal.returns-clause-begins
returns-clause-begins c d is = omega (arith, ints, is)

pub returns-clause-ends : goal.returns-clause-ends
returns-clause-ends c d is = omega (arith, ints, is)

pub returns-clause-words : goal.returns-clause-words
unfolding digits in_digits year_text
returns-clause-words c d is = rw (is, march_2021.0, march_2021.1, march_2021.2) refl

pub returns-clause-json : goal.returns-clause-json
unfolding digits print_from escape_byte in_digits year_text
returns-clause-json c d is = rw (is, march_2021.0, march_2021.1, march_2021.2) refl

pub returns-clause-one_day : goal.returns-clause-one_day
returns-clause-one_day c d is = record { begins = omega (arith, ints, is); ordered = omega (arith, ints, is); ends = omega (arith, ints, is) }

pub returns-clause-in_its_year : goal.returns-clause-in_its_year
unfolding year_start
returns-clause-in_its_year c d is = record { begins = omega (arith, ints, is); ordered = omega (arith, ints, is); ends = omega (arith, ints) }

pub returns-clause-over_before : goal.returns-clause-over_before
unfolding year_start
returns-clause-over_before c d is period = omega (arith, ints, is, period.ordered)

pub returns-clause-no_year : goal.returns-clause-no_year
unfolding year_start
returns-clause-no_year c period = omega (arith, ints, period.begins)

pub returns-clause-five_digits : goal.returns-clause-five_digits
unfolding year_start
returns-clause-five_digits c period = omega (arith, ints, period.ends)
