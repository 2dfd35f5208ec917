-- Steps of the search for seconds at which clocks show a plan's local times.
use Rattle.std.specs.Prelude.{◌⊎◌, ℤ, pos, ◌+ℤ◌, ◌-ℤ◌, ◌≤ℤ◌, ◌<ℤ◌}
use Rattle.naive_base.specs.Range.{IsInRange, IsWide}
use Rattle.zoned_plans.specs.{Fires.{IsFire}, Policies.{IsShownFire}}

-- the plan fires at the second u, and clocks show one of its local times
abbrev pub IsFirstShown : (ℤ → ℤ) → (ℤ → Type 0) → ℤ → Type 0
IsFirstShown off plan u = IsFire off plan u × IsShownFire off plan u

-- the plan fires at the second u, or clocks show one of its local times
abbrev pub IsEither : (ℤ → ℤ) → (ℤ → Type 0) → ℤ → Type 0
IsEither off plan u = IsFire off plan u ⊎ IsShownFire off plan u

-- of the seconds after t and before `until`, u is the first one at which a clock k seconds ahead of UTC shows a local time of the plan
pub record IsFirstPlannedIn (plan : ℤ → Type 0) (t until k u : ℤ) : Type 0 where
  pub wide : IsWide (u +ℤ k)
  pub planned : plan (u +ℤ k)
  pub after : t <ℤ u
  pub before : u <ℤ until
  pub least : (v : ℤ) → IsWide (v +ℤ k) → plan (v +ℤ k) → t <ℤ v → u ≤ℤ v

-- at none of these seconds it does
abbrev pub NonePlannedIn : (ℤ → Type 0) → ℤ → ℤ → ℤ → Type 0
NonePlannedIn plan t until k = (v : ℤ) → IsWide (v +ℤ k) → plan (v +ℤ k) → t <ℤ v → v <ℤ until → ⊥

-- after the second t and up to u no clock less than a day away from UTC shows a local time of the plan
pub record AreQuiet (plan : ℤ → Type 0) (t u : ℤ) : Type 0 where
  pub from : t ≤ℤ u
  pub none : (v l : ℤ) → IsWide l → plan l → (v -ℤ pos 86_400) <ℤ l → l <ℤ (v +ℤ pos 86_400) → t <ℤ v → u <ℤ v

-- after the second t none does
abbrev pub AreAllQuiet : (ℤ → Type 0) → ℤ → Type 0
AreAllQuiet plan t = (v l : ℤ) → IsWide l → plan l → (v -ℤ pos 86_400) <ℤ l → t <ℤ v → ⊥

-- none of the seconds in range that come after t comes at or before u
pub record IsPast (fire : ℤ → Type 0) (t u : ℤ) : Type 0 where
  pub from : t ≤ℤ u
  pub none : (v : ℤ) → IsInRange v → fire v → t <ℤ v → u <ℤ v

-- of the seconds at or before t and not before `from`, u is the last one at which a clock k seconds ahead of UTC shows a local time of the plan
pub record IsLastPlannedIn (plan : ℤ → Type 0) (t from k u : ℤ) : Type 0 where
  pub wide : IsWide (u +ℤ k)
  pub planned : plan (u +ℤ k)
  pub not_after : u ≤ℤ t
  pub not_before : from ≤ℤ u
  pub greatest : (v : ℤ) → IsWide (v +ℤ k) → plan (v +ℤ k) → v ≤ℤ t → v ≤ℤ u

-- at none of these seconds it does
abbrev pub NoneUntilPlannedIn : (ℤ → Type 0) → ℤ → ℤ → ℤ → Type 0
NoneUntilPlannedIn plan t from k = (v : ℤ) → IsWide (v +ℤ k) → plan (v +ℤ k) → v ≤ℤ t → from ≤ℤ v → ⊥

-- after the second u and up to t no clock less than a day away from UTC shows a local time of the plan
pub record AreQuietUntil (plan : ℤ → Type 0) (t u : ℤ) : Type 0 where
  pub until : u ≤ℤ t
  pub none : (v l : ℤ) → IsWide l → plan l → (v -ℤ pos 86_400) <ℤ l → l <ℤ (v +ℤ pos 86_400) → v ≤ℤ t → v ≤ℤ u

-- up to the second t none does
abbrev pub AreAllQuietUntil : (ℤ → Type 0) → ℤ → Type 0
AreAllQuietUntil plan t = (v l : ℤ) → IsWide l → plan l → l <ℤ (v +ℤ pos 86_400) → v ≤ℤ t → ⊥

-- of the seconds in range and at or before t, all are at or before u
pub record IsPastUntil (fire : ℤ → Type 0) (t u : ℤ) : Type 0 where
  pub until : u ≤ℤ t
  pub none : (v : ℤ) → IsInRange v → fire v → v ≤ℤ t → v ≤ℤ u
