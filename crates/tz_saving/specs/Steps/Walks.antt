-- Walks from a second to the nearest change that has standard time, or a type, on its far side.
use Rattle.std.specs.Prelude.{ℕ, suc, ℤ, pos, Bool, true, false, ◌↔◌, ◌≡◌, ◌-ℤ◌, ◌≤ℤ◌, ◌<ℤ◌, FitsSigned, Option, MatchOption}
use Rattle.std.specs.Int.{w64}
use Rattle.tz_base.specs.{LocalTypes.{LocalType}, declared.change.Change.{Change}}
use Rattle.tz_info.specs.{Changes.{IsChange, Precedes}, Zones.{TypeAt, Zone}}
use Rattle.tz_saving.specs.{Sides.{HasChanges, reach}, Sides.{HasNoStandard, IsStandard}}
use Rattle.tz_saving.specs.declared.sides.{Side.{Side, TheVariants.{Before, After}}, Wanted.{Wanted, TheVariants.{Standard, Same}}}

-- clocks go on to the side after a second, and back to the one before it
abbrev pub is_forward : Side → Bool
is_forward Before = false
is_forward After = true

-- in that direction, which is forward or back, a change at that second comes after u
abbrev pub IsBeyond : Bool → ℤ → ℤ → Type 0
IsBeyond true u at = u <ℤ at
IsBeyond false u at = at ≤ℤ u

-- and the second v does
abbrev pub IsAhead : Bool → ℤ → ℤ → Type 0
IsAhead true u v = u <ℤ v
IsAhead false u v = v <ℤ u

-- the type on the far side of the change, and the nearest second there
abbrev pub far_type : Bool → Change → LocalType
far_type true c = c.after
far_type false c = c.before

abbrev pub far_second : Bool → ℤ → ℤ
far_second true at = at
far_second false at = at -ℤ pos 1

-- at least n changes come between u and v
abbrev pub HasBetween : Bool → Zone → ℕ → ℤ → ℤ → Type 0
HasBetween true z n u v = HasChanges (TypeAt z) n u v
HasBetween false z n u v = HasChanges (TypeAt z) n v u

-- more changes than within reach
abbrev pub IsFar : Bool → Zone → ℤ → ℤ → Type 0
IsFar forward z u v = HasBetween forward z (suc reach) u v

-- a type without the DST flag, or that type
abbrev pub IsWanted : Wanted → LocalType → Type 0
IsWanted Standard other = other.dst ≡ false
IsWanted (Same t) other = other ≡ t.now

-- a change beyond u to a wanted type
pub record IsTurn (forward : Bool) (z : Zone) (wanted : LocalType → Type 0) (u : ℤ) (c : Change) : Type 0 where
  pub is : IsChange (TypeAt z) c
  pub to : wanted (far_type forward c)
  pub beyond : IsBeyond forward u c.at

-- it is within reach, and the first in that direction
pub record IsNearestTurn (forward : Bool) (z : Zone) (wanted : LocalType → Type 0) (u : ℤ) (c : Change) : Type 0 where
  pub turn : IsTurn forward z wanted u c
  pub near : ¬ (IsFar forward z u (far_second forward c.at))
  pub first : (d : Change) → IsTurn forward z wanted u d → Precedes forward c.at d.at

-- each is out of reach
abbrev pub AreTurnsFar : Bool → Zone → (LocalType → Type 0) → ℤ → Type 0
AreTurnsFar forward z wanted u = (d : Change) → IsTurn forward z wanted u d → IsFar forward z u (far_second forward d.at)

-- the nearest turn, or nothing
abbrev pub IsTurnFound : Bool → Zone → (LocalType → Type 0) → ℤ → Option Change → Type 0
IsTurnFound forward z wanted u found = MatchOption found (AreTurnsFar forward z wanted u) (IsNearestTurn forward z wanted u)

-- the walk from u has reached that second: more than `left` changes lie between it and a second if that is beyond the reach of u, and
-- only then; and each turn is beyond it
pub record IsWalkedTo (forward : Bool) (z : Zone) (wanted : LocalType → Type 0) (left : ℕ) (u reached : ℤ) : Type 0 where
  pub order : Precedes forward u reached
  pub reach_left : (v : ℤ) → HasBetween forward z (suc left) reached v ↔ IsFar forward z u v
  pub later : (d : Change) → IsTurn forward z wanted u d → IsBeyond forward reached d.at

-- at the second u of 64 bits a type is in force that has the flag, or has it not
pub record HasFlag (z : Zone) (flag_is : Bool) (u : ℤ) : Type 0 where
  pub fits : FitsSigned w64 u
  pub type : LocalType
  pub in_force_then : TypeAt z u type
  pub flag : type.dst ≡ flag_is

-- the second v comes after u in that direction, and is within reach
abbrev pub IsNear : Bool → Zone → ℤ → ℤ → Type 0
IsNear forward z u v = IsAhead forward u v × ¬ (IsFar forward z u v)

-- the offset of the standard second that is nearest to u in that direction, if that is within reach
pub record IsNearestStandard (forward : Bool) (z : Zone) (u offset : ℤ) : Type 0 where
  pub at : ℤ
  pub near : IsNear forward z u at
  pub is : IsStandard (TypeAt z) offset at
  pub nearest : (v other : ℤ) → IsStandard (TypeAt z) other v → IsAhead forward u v → Precedes forward at v

-- that offset, or nothing
abbrev pub IsStandardFound : Bool → Zone → ℤ → Option ℤ → Type 0
IsStandardFound forward z u found = MatchOption found (HasNoStandard (TypeAt z) (IsNear forward z u)) (IsNearestStandard forward z u)
