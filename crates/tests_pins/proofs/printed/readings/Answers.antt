use Rattle.tests_pins.proofs.{Words.{arith, date_only, pos, refl}, Computed.{calendar, printing}}
use Rattle.tests_pins.proofs.printed.readings.Goals as goal

pub returns : goal.returns
unfolding calendar printing
returns c =
    let last_day = date_only (pos 17_166) (pos 2016) 12 31 (omega arith, omega arith, omega arith, omega arith) refl in
    let first_day = date_only (pos 17_167) (pos 2017) 1 1 (omega arith, omega arith, omega arith, omega arith) refl in
    record { leap_second = rw (last_day.0, last_day.1, last_day.2) refl; next = rw (first_day.0, first_day.1, first_day.2) refl }
