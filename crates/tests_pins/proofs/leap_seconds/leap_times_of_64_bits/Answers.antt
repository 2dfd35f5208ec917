use Rattle.std.specs.Int.{w64}
use Rattle.std.specs.Prelude.{FitsSigned, slice_index_or}
use Rattle.tz_info.specs.Leaps.{corrections}
use Rattle.tests_pins.proofs.Words.{arith, ints, pos, refl, suc, zero, ℕ, ◌+ℤ◌, ◌<◌}
use Rattle.tests_pins.specs.LeapSeconds.{back_and_forth}
use Rattle.tests_pins.proofs.leap_seconds.leap_times_of_64_bits.Goals as goal

each_fits : (k : ℕ) → k < 3 → FitsSigned w64 (pos 9_223_372_036_854_775_805 +ℤ slice_index_or (corrections back_and_forth) k (pos 0))
each_fits zero h = grind (arith, ints)
each_fits (suc zero) h = grind (arith, ints)
each_fits (suc (suc zero)) h = grind (arith, ints)
each_fits (suc (suc (suc k))) h = absurd (omega (arith, h))

pub returns : goal.returns
returns c = record {
  leaves = λ x is. let second = is.fits 1 (omega arith) in absurd (grind (arith, ints, second));
  refused = record { place = 1; passed = omega arith; leaves = λ second. absurd (grind (arith, ints, second)) };
  fits = record { sum = refl; fits = λ k h. each_fits k h };
}
