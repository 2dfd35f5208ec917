-- Runs of seconds at which one type is in force.
use Rattle.std.specs.Prelude.{◌≡◌, Bool, true, false, ℤ, pos, neg_ℤ, ◌-ℤ◌, ◌≤ℤ◌, ◌<ℤ◌, Option, MatchOption}
use Rattle.{
  tz_base.specs.LocalTypes.{LocalType},
  tz_info.specs.{Changes.{Precedes}, Leaps.{IsNear}, Windows.{IsGreatest, IsLeast, offsets}, Zones.{Zone, TypeAt}},
  tz_info.specs.ShownSeconds.{IsFirstWithin, IsLastWithin, ShowsWithin},
}

-- the type of `at` is in force from the second `at` on and before `end`; if `end` is before `limit`, another type is in force then
pub record IsRunUntil (in_force : ℤ → LocalType → Type 0) (at limit end : ℤ) : Type 0 where
  pub later : at <ℤ end
  pub most : end ≤ℤ limit
  pub same : (u : ℤ) → at ≤ℤ u → u <ℤ end → (t : LocalType) → in_force at t → in_force u t
  pub turns : end <ℤ limit → (t : LocalType) → in_force at t → in_force end t → ⊥

-- at a given offset the second u of a run shows a local time of the stretch
pub record IsWithinRun (start end from until u : ℤ) : Type 0 where
  pub low : start ≤ℤ u
  pub high : u <ℤ end
  pub since : from ≤ℤ u
  pub before : u <ℤ until

-- the first such second of a run, or the last one
abbrev pub IsEndOfRun : Bool → ℤ → ℤ → ℤ → ℤ → Option ℤ → Type 0
IsEndOfRun forward start end from until found = MatchOption found ((u : ℤ) → IsWithinRun start end from until u → ⊥)
    (λ u. IsWithinRun start end from until u × ((v : ℤ) → IsWithinRun start end from until v → Precedes forward u v))

-- by no type clocks show local times of the stretch before `low`, and by none from `high` on
pub record IsWindowOf (z : Zone) (from until low high : ℤ) : Type 0 where
  pub greatest : IsGreatest (offsets z.types z.rule) (from -ℤ low)
  pub least : IsLeast (offsets z.types z.rule) (until -ℤ high)
  pub near_low : IsNear low
  pub near_high : IsNear high

-- each second that shows a local time of the stretch comes from the near second `low` to before the near second `high`
pub record AreWithin (z : Zone) (from until low high : ℤ) : Type 0 where
  pub near_low : IsNear low
  pub near_high : IsNear high
  pub within : (u : ℤ) (t : LocalType) → ShowsWithin (TypeAt z) from until u t → (low ≤ℤ u) × (u <ℤ high)

-- of the seconds from `low` to before `high` the run has the first ones, or the last ones, and at least one
abbrev pub IsNextRun : Bool → ℤ → ℤ → ℤ → ℤ → Type 0
IsNextRun true low high start end = (start ≡ low) × (low <ℤ end) × (end ≤ℤ high)
IsNextRun false low high start end = (end ≡ high) × (low ≤ℤ start) × (start <ℤ high)

-- at each second from `start` to before `end` the type t is in force
abbrev pub HaveOneTypeFrom : (ℤ → LocalType → Type 0) → ℤ → ℤ → LocalType → Type 0
HaveOneTypeFrom in_force start end t = (u : ℤ) → start ≤ℤ u → u <ℤ end → in_force u t

-- of the seconds that show a local time of the stretch u is the first or the last one, and t is its type
abbrev pub IsEndWithin : Bool → (ℤ → LocalType → Type 0) → ℤ → ℤ → ℤ → LocalType → Type 0
IsEndWithin true in_force from until u t = IsFirstWithin in_force from until u t
IsEndWithin false in_force from until u t = IsLastWithin in_force from until u t

-- seconds from which a type's offset leads to a second that is near, as each local time
abbrev pub IsEnd : ℤ → Type 0
IsEnd s = (neg_ℤ (pos 9_000_000_000_000) ≤ℤ s) × (s ≤ℤ pos 9_000_000_000_000)
