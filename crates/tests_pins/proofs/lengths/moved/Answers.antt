use Rattle.tests_pins.proofs.{Words.{arith, date_only, pos, refl}, Computed.{calendar}}
use Rattle.tests_pins.proofs.lengths.moved.Goals as goal

pub returns : goal.returns
unfolding calendar
returns c =
    let january = date_only (pos 18_658) (pos 2021) 1 31 (omega arith, omega arith, omega arith, omega arith) refl in record {
      month = rw (january.0, january.1, january.2) refl;
      days = rw (january.0, january.1, january.2) refl;
      months = rw (january.0, january.1, january.2) refl;
    }
