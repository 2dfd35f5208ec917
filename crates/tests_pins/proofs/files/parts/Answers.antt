use Rattle.tests_pins.proofs.Words.{block, exact_at, lawful, refl}
use Rattle.tests_pins.proofs.files.parts.Goals as goal

pub returns : goal.returns
unfolding block exact_at
returns c =
    record {
      order = (lawful (block 4 (record { ut_local = 2; standard_wall = 1; leap_seconds = 0; transitions = 0; types = 0; designations = 1 })) _).takes
          (_, _) refl;
    }
