use Rattle.tests_pins.proofs.{Words.{clock_words, digits, escape_byte, in_digits, print_from, refl, year_text}, ChangeDays.{march_2021}}
use Rattle.tests_pins.proofs.printed_changes.json_change.Goals as goal

pub returns : goal.returns
unfolding digits print_from escape_byte in_digits year_text clock_words
returns c = rw (march_2021.0, march_2021.1, march_2021.2) refl
