-- Hints at the places of items that come in order of time. The time from the first item on is cut into stretches of equal
-- length, and a hint says which item is the last one before a stretch.
use Rattle.std.specs.Prelude.{ℕ, suc, ◌≡◌, ◌⊎◌, ◌+◌, ◌*◌, ◌/◌, ◌^◌, ◌<◌, ◌≤◌, List, length, slice_index, ℤ, pos, nat_abs, ◌+ℤ◌, ◌-ℤ◌, ◌≤ℤ◌, ◌<ℤ◌}
use Rattle.tz_search.specs.{Search.{item_time}, declared.timeline.hints.{Hints.{Hints}, Near.{Near}}}

-- the place is that of the last item before that time, or of the first item if no item comes before it
pub record IsLastBefore (times : List ℤ) (time : ℤ) (place : ℕ) : Type 0 where
  pub within : place < length times
  pub before : 0 < place → item_time times place <ℤ time
  pub after : (k : ℕ) → place < k → k < length times → time ≤ℤ item_time times k

-- no number is less than the one before it
abbrev pub AreNonDecreasing : List ℕ → Type 0
AreNonDecreasing numbers = (b : ℕ) → suc b < length numbers → slice_index numbers b ≤ slice_index numbers (suc b)

-- each hint is that of its stretch, and no two neighbours leave more than half of the items between them
pub record AreHints (times : List ℤ) (hints : Hints) : Type 0 where
  pub shift : hints.shift < 64
  pub rising : AreNonDecreasing hints.places.items
  pub places : (b : ℕ) → b < length hints.places.items → IsLastBefore times (item_time times 0 +ℤ pos (b * 2 ^ hints.shift)) (slice_index hints.places.items b)
  pub some : 0 < length hints.places.items → 4 ≤ length times
  pub narrow : (b : ℕ) → suc b < length hints.places.items
      → 2 * (slice_index hints.places.items (suc b) + 1) ≤ 2 * slice_index hints.places.items b + length times

-- the items from the stretch's hint on, up to that of the next
pub record IsHinted (places : List ℕ) (stretch : ℕ) (near : Near) : Type 0 where
  pub within : suc stretch < length places
  pub first : near.first ≡ slice_index places stretch
  pub last : near.first + near.count ≡ slice_index places (suc stretch) + 1

-- the stretch that an item at that time lies in
abbrev pub stretch_of : ℤ → ℤ → ℕ → ℕ
stretch_of first time shift = nat_abs (time -ℤ first) / 2 ^ shift

-- for each stretch the hint after it is the last of the first n items that lies in it, or 0 if none does
pub record AreMarked (times : List ℤ) (first : ℤ) (shift n : ℕ) (places : List ℕ) : Type 0 where
  pub of_item : (b : ℕ) → b < length places
      → (slice_index places b ≡ 0) ⊎ ((slice_index places b < n) × (suc (stretch_of first (item_time times (slice_index places b)) shift) ≡ b))
  pub latest : (k : ℕ) → k < n → k ≤ slice_index places (suc (stretch_of first (item_time times k) shift))

-- no number is less than an earlier one, unless it is 0
abbrev pub RiseFromZero : List ℕ → Type 0
RiseFromZero numbers = (b j : ℕ) → b < length numbers → j ≤ b → 0 < slice_index numbers b → slice_index numbers j ≤ slice_index numbers b

-- each number of the first n is raised to the greatest up to it
pub record AreRaisedUntil (before after : List ℕ) (n : ℕ) : Type 0 where
  pub count : length after ≡ length before
  pub above : (b j : ℕ) → b < n → j ≤ b → slice_index before j ≤ slice_index after b
  pub some : (b : ℕ) → b < n → (j : ℕ) × (j ≤ b) × (slice_index after b ≡ slice_index before j)

abbrev pub AreRaised : List ℕ → List ℕ → Type 0
AreRaised before after = AreRaisedUntil before after (length before)

-- of the first n numbers none is greater than the one before it by more than that
abbrev pub AreStepsUntil : List ℕ → ℕ → ℕ → Type 0
AreStepsUntil numbers most n = (b : ℕ) → suc b < n → slice_index numbers (suc b) ≤ slice_index numbers b + most
