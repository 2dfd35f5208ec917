use Rattle.tests_pins.proofs.{Words.{digits, in_digits, refl, short_day, short_month, short_weekday}, ChangeDays.{march_2007}}
use Rattle.tests_pins.proofs.printed_changes.zdump_pair.Goals as goal

pub returns : goal.returns
unfolding digits in_digits short_weekday short_month short_day
returns c = rw (march_2007.0, march_2007.1, march_2007.2) refl
