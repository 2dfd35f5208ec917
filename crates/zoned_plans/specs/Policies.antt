-- When a plan fires under a policy for local times in gaps and in folds.
use Rattle.std.specs.Prelude.{◌≡◌, ◌⊎◌, ℤ, ◌+ℤ◌, List}
use Rattle.zoned_time.specs.Zone.{IsZoneSecond, Law, Meaning}
use Rattle.zoned_plans.specs.{Fires.{FiresLeft, IsFire}, Nearest.{AreAllOf}, declared.policies.FirePolicy.{FirePolicy}}
use Rattle.zoned_plans.specs.declared.policies.{FoldFires.{FoldFires}, GapFires.{GapFires}}

-- at the second u, one at which zones have offsets, clocks show one of the plan's local times
pub record IsShownFire (off : ℤ → ℤ) (plan : ℤ → Type 0) (u : ℤ) : Type 0 where
  pub in_zone : IsZoneSecond u
  pub planned : plan (u +ℤ off u)

-- the plan fires at the second u under a policy: clocks then show one of its local times, or have just been set forward over one. If it
-- fires on the first pass only, they haven't shown that local time or a later one before; if it doesn't fire at the end of a gap, they show it
pub record IsFireBy (policy : FirePolicy) (off : ℤ → ℤ) (plan : ℤ → Type 0) (u : ℤ) : Type 0 where
  pub fires : IsFire off plan u ⊎ IsShownFire off plan u
  pub first : policy.fold ≡ FoldFires.FirstPass → IsFire off plan u
  pub shown : policy.gap ≡ GapFires.Never → IsShownFire off plan u

-- these are the plan's fires under a policy after the second t and at or before `until`, in order
abbrev pub AreFiresBy : FirePolicy → (ℤ → ℤ) → (ℤ → Type 0) → ℤ → ℤ → List ℤ → Type 0
AreFiresBy policy off plan t until us = AreAllOf (IsFireBy policy off plan) t until us

-- the fires that a `Fires` has left, in order
abbrev pub AreLeft : {Z P O : Type 0} {m : Meaning O} → (Z → Law m) → (P → ℤ → Type 0) → FiresLeft Z P → List ℤ → Type 0
AreLeft law planned l us = AreFiresBy l.policy (law l.zone).off (planned l.plan) l.after l.until us
