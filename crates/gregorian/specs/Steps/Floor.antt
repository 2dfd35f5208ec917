-- The ruleset `floors`: what `omega` needs to know of signed numbers, casts, and division and remainder by floors, in forms
-- that split no case. A signed number is the difference of two natural ones, `up` and `down`.
use Rattle.std.proofs.Common.{◌≡◌, ℕ, ◌+◌, ◌*◌, ◌<◌, ◌≤◌, ◌^◌, arith, ℤ, pos, negsuc, to_z, of_z, FitsSigned}
use Rattle.std.specs.Int.{int_div_euclid, int_rem_euclid, Width}
use mir.Val.{hbits}
use borrow.Author.Differences.{up, down, fits_out, same_out, Apart-out, lt_T, le_T, lt_not, le_not, lt-true, lt-false, le-true, le-false, true-lt, false-lt}
use borrow.Author.Differences.{true-le, false-le, not_negative_out, lt_out, le_out, fits_in, same_in, lt_in, le_in, below_in, at_most_in, not_negative_in}
use borrow.Author.Differences.{sum_is_lem, neg_is, product_is, back_is, small_is}

pub div_parts : (a : ℤ) (k : ℕ) → 0 < k
    → (up (int_div_euclid a (pos k)) * k + down a ≤ down (int_div_euclid a (pos k)) * k + up a)
    × (down (int_div_euclid a (pos k)) * k + up a < up (int_div_euclid a (pos k)) * k + down a + k)
div_parts (pos a) k h = omega arith
div_parts (negsuc a) k h = omega arith

pub rem_parts : (a : ℤ) (k : ℕ) → 0 < k
    → (up (int_rem_euclid a (pos k)) + up (int_div_euclid a (pos k)) * k + down a ≡ down (int_div_euclid a (pos k)) * k + up a)
    × (down (int_rem_euclid a (pos k)) ≡ 0) × (up (int_rem_euclid a (pos k)) < k)
rem_parts (pos a) k h = omega arith
rem_parts (negsuc a) k h = omega arith

pub fits_between : (w : Width) (z : ℤ) → (up z < down z + 2 ^ hbits w) × (down z ≤ up z + 2 ^ hbits w)
    → FitsSigned w z
fits_between w z h = fits_in w z (omega arith)

pub back_between : (w : Width) (z : ℤ) → up z < down z + 2 ^ hbits w → down z ≤ up z + 2 ^ hbits w
    → (up (to_z w (of_z w z)) ≡ up z) × (down (to_z w (of_z w z)) ≡ down z)
back_between w z h k = back_is w z (omega arith)

pub ruleset floors = (
  fits_out,
  same_out,
  Apart-out,
  lt_T,
  le_T,
  lt_not,
  le_not,
  lt-true,
  lt-false,
  le-true,
  le-false,
  true-lt,
  false-lt,
  true-le,
  false-le,
  not_negative_out,
  lt_out,
  le_out,
  same_in,
  lt_in,
  le_in,
  below_in,
  at_most_in,
  not_negative_in,
  sum_is_lem,
  neg_is,
  product_is,
  div_parts,
  rem_parts,
  fits_between,
  back_between,
  small_is,
)
