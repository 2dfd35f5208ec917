-- Changes of the offset: the clock changes at which not only the DST flag or the abbreviation changes.
use Rattle.std.specs.Prelude.{ℤ, ◌≢◌, Bool, true, false, Option, MatchOption}
use Rattle.tz_base.specs.{LocalTypes.{LocalType}, declared.change.Change.{Change}}
use Rattle.tz_info.specs.Changes.{IsChange, Precedes}

-- at the second of the change another offset is in force than at the second before it
pub record IsOffsetChange (in_force : ℤ → LocalType → Type 0) (c : Change) : Type 0 where
  pub is : IsChange in_force c
  pub other : c.before.offset ≢ c.after.offset

-- the offset changes at no second that `within` accepts
abbrev pub KeepsOffset : (ℤ → LocalType → Type 0) → (ℤ → Type 0) → Type 0
KeepsOffset in_force within = (d : Change) → IsOffsetChange in_force d → within d.at → ⊥

-- of the changes of the offset at seconds that `within` accepts c is the one that comes first in that direction
pub record IsNearestOffsetChange (forward : Bool) (in_force : ℤ → LocalType → Type 0) (within : ℤ → Type 0) (c : Change) : Type 0 where
  pub is : IsOffsetChange in_force c
  pub inside : within c.at
  pub nearest : (d : Change) → IsOffsetChange in_force d → within d.at → Precedes forward c.at d.at

-- the first change of the offset at a second that `within` accepts, if there is one
abbrev pub IsFirstOfOffset : (ℤ → LocalType → Type 0) → (ℤ → Type 0) → Option Change → Type 0
IsFirstOfOffset in_force within found = MatchOption found (KeepsOffset in_force within) (IsNearestOffsetChange true in_force within)

-- the last one, if there is one
abbrev pub IsLastOfOffset : (ℤ → LocalType → Type 0) → (ℤ → Type 0) → Option Change → Type 0
IsLastOfOffset in_force within found = MatchOption found (KeepsOffset in_force within) (IsNearestOffsetChange false in_force within)
