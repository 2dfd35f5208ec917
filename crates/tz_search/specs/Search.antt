-- A search among items that come in order of time, by the list of their times.
use Rattle.std.specs.Prelude.{ℕ, ◌≡◌, ◌-◌, ◌<◌, ◌≤◌, List, length, slice_index_or, AllPairs, ℤ, pos, ◌≤ℤ◌, ◌<ℤ◌, Option, None, Some}
use Rattle.tz_search.specs.Counts.{Counts}

-- the times don't fall
abbrev pub AreOrdered : List ℤ → Type 0
AreOrdered times = AllPairs (λ a b. a ≤ℤ b) times

-- the time at that place
abbrev pub item_time : List ℤ → ℕ → ℤ
item_time times place = slice_index_or times place (pos 0)

-- the first `count` come at or before v, the others after it
pub record ArePassed (times : List ℤ) (v : ℤ) (count : ℕ) : Type 0 where
  pub within : count ≤ length times
  pub before : (k : ℕ) → k < count → item_time times k ≤ℤ v
  pub after : (k : ℕ) → count ≤ k → k < length times → v <ℤ item_time times k

-- the last of the first `count` items
pub record IsLastOf {A : Type 0} (items : List A) (count : ℕ) (last : Option A) : Type 0 where
  pub none : count ≡ 0 → last ≡ None
  pub some : 0 < count → (x : A) × (last ≡ Some x) × (x ≡ slice_index_or items (count - 1) x)

-- at least one probe was counted, and at most `most`
pub record AreProbesCounted (counted : Counts → ℕ → Counts) (before after : Counts) (most : ℕ) : Type 0 where
  pub probed : ℕ
  pub some : 0 < probed
  pub within : probed ≤ most
  pub counts : after ≡ counted before probed
