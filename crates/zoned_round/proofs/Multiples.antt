-- How far the multiples of a span are from a number.
use Rattle.zoned_round.proofs.Words.{floors, multiple_above, multiple_below, nearest_multiple, neg_ℤ, numbers, pos, unsigned_abs, ℕ, ℤ, ◌+ℤ◌, ◌-ℤ◌, ◌<ℤ◌, ◌<◌}
use Rattle.zoned_round.proofs.Words.{◌≡◌, ◌≤ℤ◌, ◌⊎◌}

module _ (n : ℤ) (span : ℕ) where
  -- the multiple below is less than a span away
  pub below-near : 0 < span → (multiple_below n span ≤ℤ n) × (n <ℤ (multiple_below n span +ℤ pos span))
  below-near = grind numbers

  -- the one above is the one below if that is the value, and else one span further
  pub above-is : 0 < span
      → ((multiple_above n span ≡ multiple_below n span) × (n ≡ multiple_below n span))
      ⊎ ((multiple_above n span ≡ multiple_below n span +ℤ pos span) × (multiple_below n span <ℤ n))
  above-is = grind numbers

  pub above-near : 0 < span → (n ≤ℤ multiple_above n span) × (multiple_above n span <ℤ (n +ℤ pos span))
  above-near = grind numbers

  -- the nearest is one of the two, and at most half a span away
  pub nearest-is : ((nearest_multiple n span ≡ multiple_below n span) × ((n -ℤ multiple_below n span) <ℤ (multiple_above n span -ℤ n)))
      ⊎ ((nearest_multiple n span ≡ multiple_above n span) × ((multiple_above n span -ℤ n) ≤ℤ (n -ℤ multiple_below n span)))
  nearest-is = grind numbers

-- the ways to the three of them
module _ (n span : ℤ) (some : pos 0 <ℤ span) where
  pub way-down : ((multiple_below n (unsigned_abs span) -ℤ n) ≤ℤ pos 0) × (pos 0 <ℤ (multiple_below n (unsigned_abs span) -ℤ n +ℤ span))
  way-down = grind (numbers, floors)

  pub way-up : (pos 0 ≤ℤ (multiple_above n (unsigned_abs span) -ℤ n)) × ((multiple_above n (unsigned_abs span) -ℤ n) <ℤ span)
  way-up = grind (numbers, floors)

  pub way-near : let way = nearest_multiple n (unsigned_abs span) -ℤ n in
      ((nearest_multiple n (unsigned_abs span) ≡ multiple_below n (unsigned_abs span))
      ⊎ (nearest_multiple n (unsigned_abs span) ≡ multiple_above n (unsigned_abs span)))
      × ((way +ℤ way) ≤ℤ span) × (neg_ℤ span ≤ℤ (way +ℤ way))
  way-near = grind numbers
