use Rattle.tests_pins.proofs.Words.{be_u32, exact_at, lawful, refl, six_counts}
use Rattle.tests_pins.proofs.files.counts.Goals as goal

pub returns : goal.returns
unfolding six_counts be_u32 exact_at
returns c = record { order = (lawful six_counts _).takes (_, _) refl; high_byte_first = (lawful be_u32 _).takes (_, _) refl }
