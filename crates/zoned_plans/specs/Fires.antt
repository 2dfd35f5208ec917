-- When a plan fires in a zone. Plans are sets of local times, in whole seconds.
use Rattle.std.specs.Prelude.{◌≡◌, ℤ, ◌≤ℤ◌, ◌<ℤ◌, List, [], ◌∷◌, Option, MatchOption, ℕ, ◌-ℤ◌, unsigned_abs, int_lt, if◌then◌else◌, ⊤, pos, nat_lt}
use Rattle.naive_base.specs.Reading.{Reading}
use Rattle.zoned_time.specs.{DateTime.{zoned}, Days.{IsFirstToReach}, Zone.{Meaning, Law}, Zoned.{Zoned}}
use Rattle.zoned_plans.specs.Nearest.{AreAllOf, IsLastOf, IsNextOf, IsZonedLastOf, IsZonedNextOf, NoneAfter, NoneBetween, NoneUntil}
use Rattle.zoned_plans.specs.declared.{fires.Fires.{Fires}, policies.{FirePolicy.{FirePolicy}, FoldFires.{FoldFires}, GapFires.{GapFires}}}

-- the plan fires at the second u: the first second at which clocks show one of its local times or a later one
pub record IsFire (off : ℤ → ℤ) (plan : ℤ → Type 0) (u : ℤ) : Type 0 where
  pub local : ℤ
  pub planned : plan local
  pub first : IsFirstToReach off local u

-- u is the plan's first fire after the second t
abbrev pub IsNextFire : (ℤ → ℤ) → (ℤ → Type 0) → ℤ → ℤ → Type 0
IsNextFire off plan t u = IsNextOf (IsFire off plan) t u

-- u is the plan's last fire at or before the second t
abbrev pub IsLastFire : (ℤ → ℤ) → (ℤ → Type 0) → ℤ → ℤ → Type 0
IsLastFire off plan t u = IsLastOf (IsFire off plan) t u

-- the plan has no fire in range after the second t
abbrev pub NoneFiresAfter : (ℤ → ℤ) → (ℤ → Type 0) → ℤ → Type 0
NoneFiresAfter off plan t = NoneAfter (IsFire off plan) t

-- the plan has no fire in range at or before the second t
abbrev pub NoneFiresUntil : (ℤ → ℤ) → (ℤ → Type 0) → ℤ → Type 0
NoneFiresUntil off plan t = NoneUntil (IsFire off plan) t

-- the last whole second before an instant
abbrev pub second_before : Reading → ℤ
second_before r = if nat_lt 0 r.f then r.s else r.s -ℤ pos 1

-- the first fire after a second, as an instant of the zone
abbrev pub IsZonedNextFire : {O : Type 0} {m : Meaning O} → Law m → (ℤ → Type 0) → ℤ → Zoned O → Type 0
IsZonedNextFire law plan t d = IsZonedNextOf law (IsFire law.off plan) t d

-- the last fire at or before a second, as an instant of the zone
abbrev pub IsZonedLastFire : {O : Type 0} {m : Meaning O} → Law m → (ℤ → Type 0) → ℤ → Zoned O → Type 0
IsZonedLastFire law plan t d = IsZonedLastOf law (IsFire law.off plan) t d

-- the plan has no fire after the second t and at or before `until`
abbrev pub NoneFiresBetween : (ℤ → ℤ) → (ℤ → Type 0) → ℤ → ℤ → Type 0
NoneFiresBetween off plan t until = NoneBetween (IsFire off plan) t until

-- these are the plan's fires after the second t and at or before `until`, in order: each is the next one after the one before it
abbrev pub AreFires : (ℤ → ℤ) → (ℤ → Type 0) → ℤ → ℤ → List ℤ → Type 0
AreFires off plan t until us = AreAllOf (IsFire off plan) t until us

-- each of these seconds comes after the one before it, and the first one after the second t
abbrev pub RiseFrom : ℤ → List ℤ → Type 0
RiseFrom t [] = ⊤
RiseFrom t (u ∷ us) = (t <ℤ u) × RiseFrom u us

-- what a `Fires` has left: the fires of a plan in a zone under a policy, after one second and at or before another
pub record FiresLeft (Z P : Type 0) : Type 0 where
  pub zone : Z
  pub plan : P
  pub policy : FirePolicy
  pub after : ℤ
  pub until : ℤ

-- the fires of a plan in a zone under a policy, after the second t and at or before `until`
abbrev pub fires_by_between : {Z P : Type 0} → Z → P → FirePolicy → ℤ → ℤ → FiresLeft Z P
fires_by_between zone plan policy t until = record { zone = zone; plan = plan; policy = policy; after = t; until = until }

-- the policy of `IsFire`: once at the end of a gap, and on the first pass of a fold
abbrev pub usual_policy : FirePolicy
usual_policy = record { gap = GapFires.AtEnd; fold = FoldFires.FirstPass }

-- the fires of a plan in a zone after the second t, and at or before `until`
abbrev pub fires_between : {Z P : Type 0} → Z → P → ℤ → ℤ → FiresLeft Z P
fires_between zone plan t until = fires_by_between zone plan usual_policy t until

-- what a `Fires` shows
abbrev pub left_of : {Z P : Type 0} → Fires Z P → FiresLeft Z P
left_of f = fires_by_between f.zone f.plan f.policy (zoned f.after).utc.s (zoned f.until).utc.s

-- how many seconds lie between the two, which are at least as many as the fires
abbrev pub seconds_left : {Z P : Type 0} → FiresLeft Z P → ℕ
seconds_left l = if int_lt l.after l.until then unsigned_abs (l.until -ℤ l.after) else 0

-- a step returned the next of those seconds, or `None` if and only if none is left
abbrev pub GivesFire : {Z P O D : Type 0} {m : Meaning O} → Law m → (ℤ → Type 0) → (D → Zoned O) → FiresLeft Z P → Option D → FiresLeft Z P → Type 0
GivesFire law fire zoned before answer after = MatchOption answer
    (NoneBetween fire before.after before.until × (after ≡ before))
    (λ d. IsZonedNextOf law fire before.after (zoned d) × ((zoned d).utc.s ≤ℤ before.until)
    × (after ≡ record before { after = (zoned d).utc.s }))
