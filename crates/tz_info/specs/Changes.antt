-- Changes: the seconds at which clocks change to another type of local time.
use Rattle.std.specs.{Prelude.{ℤ, pos, ◌≢◌, ◌-ℤ◌, ◌≤ℤ◌, ◌<ℤ◌, ◌↔◌, FitsSigned, List, AllPairs, Bool, true, false, Contains, Option, MatchOption}, Int.{w64}}
use Rattle.tz_base.specs.{LocalTypes.{LocalType}, declared.change.Change.{Change}}

-- at the second of the change one type is in force, a second before it another one: another offset, mark or name. Both are
-- seconds of 64 bits
pub record IsChange (in_force : ℤ → LocalType → Type 0) (c : Change) : Type 0 where
  pub fits : FitsSigned w64 c.at
  pub fits_before : FitsSigned w64 (c.at -ℤ pos 1)
  pub before : in_force (c.at -ℤ pos 1) c.before
  pub after : in_force c.at c.after
  pub differ : c.before ≢ c.after

-- no change comes at a second that `within` takes
abbrev pub HasNoChange : (ℤ → LocalType → Type 0) → (ℤ → Type 0) → Type 0
HasNoChange in_force within = (d : Change) → IsChange in_force d → within d.at → ⊥

-- in that direction, which is forward or back, x does not come after y
abbrev pub Precedes : Bool → ℤ → ℤ → Type 0
Precedes true x y = x ≤ℤ y
Precedes false x y = y ≤ℤ x

-- of the changes at seconds that `within` takes c is the one that comes first in that direction
pub record IsNearestChange (forward : Bool) (in_force : ℤ → LocalType → Type 0) (within : ℤ → Type 0) (c : Change) : Type 0 where
  pub is : IsChange in_force c
  pub inside : within c.at
  pub nearest : (d : Change) → IsChange in_force d → within d.at → Precedes forward c.at d.at

-- it is the first one, or the last one
abbrev pub IsFirstChange : (ℤ → LocalType → Type 0) → (ℤ → Type 0) → Change → Type 0
IsFirstChange in_force within c = IsNearestChange true in_force within c

abbrev pub IsLastChange : (ℤ → LocalType → Type 0) → (ℤ → Type 0) → Change → Type 0
IsLastChange in_force within c = IsNearestChange false in_force within c

-- that change, or nothing if no change comes at a second that `within` takes
abbrev pub IsNearest : Bool → (ℤ → LocalType → Type 0) → (ℤ → Type 0) → Option Change → Type 0
IsNearest forward in_force within found = MatchOption found (HasNoChange in_force within) (IsNearestChange forward in_force within)

-- the first change at a second that `within` accepts, if there is one
abbrev pub IsFirst : (ℤ → LocalType → Type 0) → (ℤ → Type 0) → Option Change → Type 0
IsFirst in_force within found = IsNearest true in_force within found

-- the last change at a second that `within` accepts, if there is one
abbrev pub IsLast : (ℤ → LocalType → Type 0) → (ℤ → Type 0) → Option Change → Type 0
IsLast in_force within found = IsNearest false in_force within found

-- from the second `from` on, and before `until`
abbrev pub IsFromUntil : ℤ → ℤ → ℤ → Type 0
IsFromUntil from until u = (from ≤ℤ u) × (u <ℤ until)

-- the changes of a stretch: they rise, and c is one of them if and only if it is a change in the stretch
pub record AreChanges (in_force : ℤ → LocalType → Type 0) (from until : ℤ) (changes : List Change) : Type 0 where
  pub rising : AllPairs (λ c d. c.at <ℤ d.at) changes
  pub each : (c : Change) → Contains changes c ↔ (IsChange in_force c × IsFromUntil from until c.at)
