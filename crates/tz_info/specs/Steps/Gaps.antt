-- The way to the first second at which clocks show more than a local time that they never show.
use Rattle.std.specs.Prelude.{◌≡◌, ℤ, pos, ◌+ℤ◌, ◌-ℤ◌, ◌≤ℤ◌, ◌<ℤ◌}
use Rattle.{
  tz_base.specs.{LocalTypes.{LocalType}, declared.change.Change.{Change}},
  tz_info.specs.{Leaps.{IsNear}, Moments.{AlternateAt}, Rules.{Alternate}, Steps.Runs.{IsWindowOf}, Zones.{Zone, TypeAt}},
}

-- clocks show less at each near second up to s
abbrev pub AreLess : Zone → ℤ → ℤ → Type 0
AreLess z local s = (u : ℤ) → IsNear u → u ≤ℤ s → (t : LocalType) → TypeAt z u t → (u +ℤ t.offset) <ℤ local

-- two seconds between which clocks may come to show the local time
abbrev pub HasReach : Zone → ℤ → Type 0
HasReach z local = (low : ℤ) × (high : ℤ) × IsWindowOf z local local low high

-- by the rule no near second from `from` on shows the local time
abbrev pub IsNeverFrom : Alternate → ℤ → ℤ → Type 0
IsNeverFrom a from local = (u : ℤ) (t : LocalType) → IsNear u → from ≤ℤ u → AlternateAt a u t → (u +ℤ t.offset) ≡ local → ⊥

-- from `from` on the near second of the change is the first at which clocks show more by the rule, and at all earlier ones they show less
pub record IsRuleGap (a : Alternate) (from local : ℤ) (c : Change) : Type 0 where
  pub near : IsNear c.at
  pub near_before : IsNear (c.at -ℤ pos 1)
  pub since : from ≤ℤ (c.at -ℤ pos 1)
  pub before : AlternateAt a (c.at -ℤ pos 1) c.before
  pub after : AlternateAt a c.at c.after
  pub more : local <ℤ (c.at +ℤ c.after.offset)
  pub less : (u : ℤ) (t : LocalType) → from ≤ℤ u → u <ℤ c.at → AlternateAt a u t → (u +ℤ t.offset) <ℤ local
