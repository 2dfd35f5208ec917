-- From which second on, and up to which one, a zone has a type.
use Rattle.std.specs.{Prelude.{ℤ, pos, ◌<◌, length, ◌≡◌, ◌-ℤ◌, ◌≤ℤ◌, ◌<ℤ◌, FitsSigned, Option, Some, MatchOption}, Int.{w64}}
use Rattle.{
  tz_base.specs.{LocalTypes.{LocalType}, declared.change.Change.{Change}},
  tz_info.specs.{Leaps.{IsLeapTime, IsLeapTimeRefused, least_time}, Zones.{Zone, TypeAt}},
}

-- the zone has a type at the second u
abbrev pub IsTyped : Zone → ℤ → Type 0
IsTyped z u = (t : LocalType) × TypeAt z u t

-- it has one, and none just before it
pub record IsFirstTyped (z : Zone) (u : ℤ) : Type 0 where
  pub fits : FitsSigned w64 (u -ℤ pos 1)
  pub typed : IsTyped z u
  pub before : ¬ (IsTyped z (u -ℤ pos 1))

-- it has one, and none at a later second; that is far from now
pub record IsLastTyped (z : Zone) (u : ℤ) : Type 0 where
  pub typed : IsTyped z u
  pub none : (v : ℤ) → FitsSigned w64 v → u <ℤ v → ¬ (IsTyped z v)
  pub far : pos 10_000_000_000_000 ≤ℤ u

-- each second up to u has a leap time, if there is a transition, and no later one; u is far from now
pub record IsLastTimed (z : Zone) (u : ℤ) : Type 0 where
  pub fits : FitsSigned w64 u
  pub has : (v : ℤ) → FitsSigned w64 v → v ≤ℤ u → 0 < length z.transitions → (x : ℤ) × IsLeapTime z.leaps v x
  pub none : (v : ℤ) → FitsSigned w64 v → u <ℤ v → (0 < length z.transitions) × IsLeapTimeRefused z.leaps v
  pub far : pos 10_000_000_000_000 ≤ℤ u

-- the first second that has a type, or nothing if the first one of 64 bits has one
abbrev pub IsTypedFrom : Zone → Option ℤ → Type 0
IsTypedFrom z from = MatchOption from (IsTyped z least_time) (IsFirstTyped z)

-- the second after the last one that has a type, at which it has none, or nothing if the last one of 64 bits has one
abbrev pub IsTypedUntil : Zone → Option ℤ → Type 0
IsTypedUntil z until = MatchOption until (IsTyped z (pos 9_223_372_036_854_775_807)) (λ u. FitsSigned w64 u × IsTyped z (u -ℤ pos 1) × ¬ (IsTyped z u))

-- the second of the change that begins a span, or without one the first second that has a type
abbrev pub IsBeginBy : Zone → Option Change → Option ℤ → Type 0
IsBeginBy z change from = MatchOption change (IsTypedFrom z from) (λ c. from ≡ Some c.at)

-- the second of the change that ends a span, or without one that after the last one that has a type
abbrev pub IsEndBy : Zone → Option Change → Option ℤ → Type 0
IsEndBy z change until = MatchOption change (IsTypedUntil z until) (λ c. until ≡ Some c.at)
