-- Seconds of one kind, such as those at which a plan fires: the next one, the last one, and all between two seconds.
use Rattle.std.specs.Prelude.{ℤ, ◌≤ℤ◌, ◌<ℤ◌, List, [], ◌∷◌}
use Rattle.naive_base.specs.{Range.{IsInRange}, Stamp.{of_secs}}
use Rattle.zoned_time.specs.{Zone.{Law, Meaning}, Zoned.{IsAt, Zoned}}

-- u is the first of those seconds after t
pub record IsNextOf (fire : ℤ → Type 0) (t u : ℤ) : Type 0 where
  pub fires : fire u
  pub after : t <ℤ u
  pub none_skipped : (v : ℤ) → fire v → t <ℤ v → u ≤ℤ v

-- u is the last of those seconds at or before t
pub record IsLastOf (fire : ℤ → Type 0) (t u : ℤ) : Type 0 where
  pub fires : fire u
  pub not_after : u ≤ℤ t
  pub none_skipped : (v : ℤ) → fire v → v ≤ℤ t → v ≤ℤ u

-- none of those seconds is in range and after t
abbrev pub NoneAfter : (ℤ → Type 0) → ℤ → Type 0
NoneAfter fire t = (v : ℤ) → IsInRange v → fire v → t <ℤ v → ⊥

-- none of them is in range and at or before t
abbrev pub NoneUntil : (ℤ → Type 0) → ℤ → Type 0
NoneUntil fire t = (v : ℤ) → IsInRange v → fire v → v ≤ℤ t → ⊥

-- none of them is after t and at or before `until`
abbrev pub NoneBetween : (ℤ → Type 0) → ℤ → ℤ → Type 0
NoneBetween fire t until = (v : ℤ) → fire v → t <ℤ v → v ≤ℤ until → ⊥

-- the first of those seconds after t, as an instant of the zone
pub record IsZonedNextOf {O : Type 0} {m : Meaning O} (law : Law m) (fire : ℤ → Type 0) (t : ℤ) (d : Zoned O) : Type 0 where
  pub next : IsNextOf fire t d.utc.s
  pub at : IsAt law (of_secs d.utc.s 0) d

-- the last of those seconds at or before t, as an instant of the zone
pub record IsZonedLastOf {O : Type 0} {m : Meaning O} (law : Law m) (fire : ℤ → Type 0) (t : ℤ) (d : Zoned O) : Type 0 where
  pub last : IsLastOf fire t d.utc.s
  pub at : IsAt law (of_secs d.utc.s 0) d

-- these are all of those seconds after t and at or before `until`, in order: each is the next one after the one before it
abbrev pub AreAllOf : (ℤ → Type 0) → ℤ → ℤ → List ℤ → Type 0
AreAllOf fire t until [] = NoneBetween fire t until
AreAllOf fire t until (u ∷ us) = IsNextOf fire t u × (u ≤ℤ until) × AreAllOf fire u until us
