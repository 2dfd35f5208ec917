use Rattle.std.specs.Int.{w64}
use Rattle.tz_info.specs.ShownSeconds.{ShowsAtOrAfter}
use Rattle.tests_pins.proofs.Words.{arith, fits_signed_from_abs, inr, ints, pos, refl}
use Rattle.tests_pins.specs.Changes.{at_epoch, cet, utc}
use Rattle.tests_pins.proofs.shown_seconds.set_forward.Goals as goal

reached : ShowsAtOrAfter (at_epoch utc cet) (pos 1_800) (pos 0) cet
reached = record {
  fits = fits_signed_from_abs w64 (pos 0) (omega arith);
  type = inr (omega (arith, ints), refl);
  reached = omega (arith, ints);
}

pub returns-clause-later : goal.returns-clause-later
returns-clause-later c h = let least = h.first (pos 0) cet reached in omega (arith, ints, least)
