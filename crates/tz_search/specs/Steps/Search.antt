-- What the steps of a search among items in order of time keep.
use Rattle.std.specs.Prelude.{ℕ, ◌≡◌, ◌+◌, ◌-◌, ◌^◌, ◌<◌, ◌≤◌, List, length, ℤ, ◌≤ℤ◌, ◌<ℤ◌}
use Rattle.tz_search.specs.{Search.{AreOrdered, item_time}, declared.timeline.{hints.Near.{Near}, Ends.{Ends}}}

-- the first and the last of the times, if there are any
pub record AreEnds (times : List ℤ) (ends : Ends) : Type 0 where
  pub first : 0 < length times → ends.first ≡ item_time times 0
  pub last : 0 < length times → ends.last ≡ item_time times (length times - 1)

-- the last one that comes at or before v is one of these
pub record IsNarrowedTo (times : List ℤ) (v : ℤ) (near : Near) : Type 0 where
  pub ordered : AreOrdered times
  pub some : 0 < near.count
  pub within : near.first + near.count ≤ length times
  pub fits : near.first + near.count < 2 ^ 64
  pub come : item_time times near.first ≤ℤ v
  pub after : (k : ℕ) → near.first + near.count ≤ k → k < length times → v <ℤ item_time times k

-- those before `first` come at or before v, those from `high` on after it
pub record IsLeft (times : List ℤ) (v : ℤ) (first high : ℕ) : Type 0 where
  pub ordered : AreOrdered times
  pub rising : first ≤ high
  pub within : high ≤ length times
  pub fits : high < 2 ^ 64
  pub before : (k : ℕ) → k < first → item_time times k ≤ℤ v
  pub after : (k : ℕ) → high ≤ k → k < length times → v <ℤ item_time times k
