-- The multiples about a number are the greatest, the least and the nearest of all multiples.
use Rattle.std.proofs.Math.Nat.{mul-le-mul_right}
use Rattle.zoned_round.proofs.Words.{IsGreatestWith, IsLeastWith, IsMultiple, apart, arith, by_lt_z, floor_div, floors, inl, inr, multiple_above}
use Rattle.zoned_round.proofs.Words.{multiple_below, nearest_multiple, numbers, pos, ℕ, ℤ, ◌*ℤ◌, ◌+ℤ◌, ◌<ℤ◌, ◌<◌, ◌∙◌, ◌≡◌, ◌≤ℤ◌, ◌≤◌}
use Rattle.zoned_round.proofs.Multiples.{above-is, above-near, below-near, nearest-is}

-- products by a span, in the order of their factors
scaled : (a b : ℤ) (span : ℕ) → a ≤ℤ b → (a *ℤ pos span) ≤ℤ (b *ℤ pos span)
scaled = grind (numbers, mul-le-mul_right)

next-is : (q : ℤ) (span : ℕ) → (q *ℤ pos span +ℤ pos span) ≡ (q +ℤ pos 1) *ℤ pos span
next-is = grind numbers

scaled-next : (a b : ℤ) (span : ℕ) → a <ℤ b → (a *ℤ pos span +ℤ pos span) ≤ℤ (b *ℤ pos span)
scaled-next = grind (numbers, next-is, scaled)

-- the multiples of a span about n
module _ (n : ℤ) (span : ℕ) (some : 0 < span) where
  -- one that isn't above n isn't above the one below n
  not_above : (k : ℤ) → (k *ℤ pos span) ≤ℤ n → (k *ℤ pos span) ≤ℤ multiple_below n span
  not_above k h =
      let near = below-near n span some in
      by_lt_z {P = (k *ℤ pos span) ≤ℤ multiple_below n span} (floor_div n span) k
      (λ past. let next = scaled-next (floor_div n span) k span past in absurd (omega (arith, floors)))
      (λ within. scaled k (floor_div n span) span within)

  -- one that isn't below n isn't below the one above n
  not_below : (k : ℤ) → n ≤ℤ (k *ℤ pos span) → multiple_above n span ≤ℤ (k *ℤ pos span)
  not_below k h = elim (above-is n span some) [
    | inl same ↦ omega (arith, floors)
    | inr next ↦ by_lt_z {P = multiple_above n span ≤ℤ (k *ℤ pos span)} (floor_div n span) k
        (λ past. let more = scaled-next (floor_div n span) k span past in omega (arith, floors))
        (λ within. let less = scaled k (floor_div n span) span within in absurd (omega (arith, floors)))
  ]

  pub below-greatest : IsGreatestWith (λ m. IsMultiple span m × (m ≤ℤ n)) (multiple_below n span)
  below-greatest = grind (numbers, below-near, not_above)

  above-multiple : IsMultiple span (multiple_above n span)
  above-multiple = elim (above-is n span some) [
    | inl same ↦ (floor_div n span, same.0)
    | inr next ↦ (floor_div n span +ℤ pos 1, next.0 ∙ next-is (floor_div n span) span)
  ]

  pub above-least : IsLeastWith (λ m. IsMultiple span m × (n ≤ℤ m)) (multiple_above n span)
  above-least = grind (numbers, above-multiple, above-near, not_below)

  pub nearest-of_all : (k : ℤ)
      → (apart n (nearest_multiple n span) ≤ apart n (k *ℤ pos span))
      × (apart n (nearest_multiple n span) ≡ apart n (k *ℤ pos span) → (k *ℤ pos span) ≤ℤ nearest_multiple n span)
  nearest-of_all k = grind (numbers, nearest-is n span, not_below k, not_above k)
