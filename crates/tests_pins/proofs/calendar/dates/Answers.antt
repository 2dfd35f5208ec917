use Rattle.tests_pins.proofs.{Words.{day_of_year, refl}, ChangeDays.{march_2021}, Computed.{calendar}}
use Rattle.tests_pins.proofs.calendar.dates.Goals as goal

pub returns-clause-place : goal.returns-clause-place
unfolding day_of_year calendar
returns-clause-place c = rw march_2021.0 refl
