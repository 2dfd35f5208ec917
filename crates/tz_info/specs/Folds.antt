-- Folds: local times that clocks show several times, and the clock change that sets them back. Clock changes of gaps and folds.
use Rattle.std.specs.Prelude.{ℤ, pos, ◌+ℤ◌, ◌-ℤ◌, ◌≤ℤ◌, ◌<ℤ◌, ◌⊎◌}
use Rattle.offset_core.specs.WallAnswer.{IsShownBetween}
use Rattle.tz_base.specs.{LocalTypes.{LocalType}, declared.change.Change.{Change}}
use Rattle.tz_info.specs.{Around.{Skips}, WallClocks.{Shows}}

-- Several seconds show the local time, and the second `at` is one at which clocks are set back from it, or from a later one: at the
-- second before, the last such one, they show the local time or more, and from `at` on less, until the last second that shows it. `after` is
-- the type in force at `at`, and `before` the one at the second before.
pub record HasFold (in_force : ℤ → LocalType → Type 0) (local : ℤ) (before after : LocalType) (at : ℤ) : Type 0 where
  pub first_type : LocalType
  pub last_type : LocalType
  pub several : IsShownBetween (Shows in_force local) first_type last_type
  pub not_later : at ≤ℤ several.last
  pub here : in_force at after
  pub earlier : in_force (at -ℤ pos 1) before
  pub reached : local ≤ℤ ((at -ℤ pos 1) +ℤ before.offset)
  pub less : (u : ℤ) (t : LocalType) → at ≤ℤ u → u <ℤ several.last → in_force u t → (u +ℤ t.offset) <ℤ local

-- a change at which clocks are set back, so that they show the local time again
abbrev pub Repeats : (ℤ → LocalType → Type 0) → ℤ → Change → Type 0
Repeats in_force local change = HasFold in_force local change.before change.after change.at

-- a change at which clocks skip the local time, or are set back so that they show it again
abbrev pub SkipsOrRepeats : (ℤ → LocalType → Type 0) → ℤ → Change → Type 0
SkipsOrRepeats in_force local change = Skips in_force local change ⊎ Repeats in_force local change
