-- Gaps: local times that no clock shows, and what is in force before they are skipped.
use Rattle.std.specs.Prelude.{ℤ, pos, ◌+ℤ◌, ◌-ℤ◌, ◌≤ℤ◌, ◌<ℤ◌}
use Rattle.offset_core.specs.WallAnswer.{IsNeverShown}
use Rattle.tz_base.specs.LocalTypes.{LocalType}
use Rattle.tz_info.specs.WallClocks.{Shows}

-- at the Unix time u a type is in force, and a clock of that type shows more than the local time
pub record ShowsMore (in_force : ℤ → LocalType → Type 0) (local u : ℤ) : Type 0 where
  pub type : LocalType
  pub here : in_force u type
  pub more : local <ℤ (u +ℤ type.offset)

-- No second shows the local time. Of the seconds at which clocks show more, `first` is the least, and t is the type in force at the
-- second before it.
pub record IsTypeBeforeGap (in_force : ℤ → LocalType → Type 0) (local : ℤ) (t : LocalType) : Type 0 where
  pub never : IsNeverShown (Shows in_force local)
  pub first : ℤ
  pub more : ShowsMore in_force local first
  pub least : (u : ℤ) → ShowsMore in_force local u → first ≤ℤ u
  pub before : in_force (first -ℤ pos 1) t

-- No second shows the local time, and at the second `at` clocks jump over it: it is the least of the seconds at which clocks show
-- more. `after` is the type in force then, and `before` the one at the second before.
pub record HasGap (in_force : ℤ → LocalType → Type 0) (local : ℤ) (before after : LocalType) (at : ℤ) : Type 0 where
  pub never : IsNeverShown (Shows in_force local)
  pub here : in_force at after
  pub more : local <ℤ (at +ℤ after.offset)
  pub least : (u : ℤ) → ShowsMore in_force local u → at ≤ℤ u
  pub earlier : in_force (at -ℤ pos 1) before

-- some second shows the local time
abbrev pub IsShown : (ℤ → LocalType → Type 0) → ℤ → Type 0
IsShown in_force local = (u : ℤ) × (t : LocalType) × Shows in_force local u t
