use Rattle.std.specs.Int.{w64}
use Rattle.tz_info.specs.ShownSeconds.{ShowsWithin}
use Rattle.tests_pins.proofs.Words.{arith, fits_signed_from_abs, inl, inr, ints, neg_ℤ, pos, refl}
use Rattle.tests_pins.specs.Changes.{at_epoch, cet, utc}
use Rattle.tests_pins.proofs.shown_seconds.set_back.Goals as goal

first : ShowsWithin (at_epoch cet utc) (pos 0) (pos 3_600) (neg_ℤ (pos 3_600)) cet
first = record {
  fits = fits_signed_from_abs w64 (neg_ℤ (pos 3_600)) (omega arith);
  type = inl (omega (arith, ints), refl);
  since = omega (arith, ints);
  before = omega (arith, ints);
}

last : ShowsWithin (at_epoch cet utc) (pos 0) (pos 3_600) (pos 3_599) utc
last = record {
  fits = fits_signed_from_abs w64 (pos 3_599) (omega arith);
  type = inr (omega (arith, ints), refl);
  since = omega (arith, ints);
  before = omega (arith, ints);
}

pub returns-clause-not_none : goal.returns-clause-not_none
returns-clause-not_none c never = never (neg_ℤ (pos 3_600)) cet first

pub returns-clause-not_first : goal.returns-clause-not_first
returns-clause-not_first c h = let least = h.first (neg_ℤ (pos 3_600)) cet first in omega (arith, ints, least)

pub returns-clause-not_last : goal.returns-clause-not_last
returns-clause-not_last c h = let most = h.last (pos 3_599) utc last in omega (arith, ints, most)
