use Rattle.tests_pins.proofs.{Words.{clock_words, digits, escape_byte, in_digits, offset_words, print_from, refl, year_text}, ChangeDays.{march_2021}}
use Rattle.tests_pins.proofs.printed_changes.differences.Goals as goal

pub returns-clause-line : goal.returns-clause-line
unfolding digits in_digits year_text clock_words offset_words
returns-clause-line c = rw (march_2021.0, march_2021.1, march_2021.2) refl

pub returns-clause-json : goal.returns-clause-json
unfolding digits print_from escape_byte in_digits year_text clock_words
returns-clause-json c = rw (march_2021.0, march_2021.1, march_2021.2) refl

pub returns-clause-lone : goal.returns-clause-lone
unfolding print_from escape_byte
returns-clause-lone c = refl
