-- What shows a local time, or the gap that it lies in.
use Rattle.std.specs.Prelude.{ℤ}
use Rattle.offset_core.specs.declared.around.Around.{Around, TheVariants.{Single, Ambiguous, Gap}}
use Rattle.tz_base.specs.{LocalTypes.{LocalType}, declared.change.Change.{Change}}
use Rattle.tz_info.specs.{Gaps.{HasGap, IsTypeBeforeGap}, WallClocks.{Shows}}
use Rattle.offset_core.specs.Around as any

-- a change at which clocks skip the local time
abbrev pub Skips : (ℤ → LocalType → Type 0) → ℤ → Change → Type 0
Skips in_force local change = HasGap in_force local change.before change.after change.at

-- exactly one second shows the local time, or several do, or it lies in the gap of that change
abbrev pub AreTypesAround : (ℤ → LocalType → Type 0) → ℤ → Around LocalType Change → Type 0
AreTypesAround in_force local = any.IsAround (Shows in_force local) (Skips in_force local)

-- exactly one second shows the local time, or several do, or it lies in a gap, with that type before it
abbrev pub IsAroundOrBefore : (ℤ → LocalType → Type 0) → ℤ → Around LocalType LocalType → Type 0
IsAroundOrBefore in_force local = any.IsAround (Shows in_force local) (IsTypeBeforeGap in_force local)

-- the answer with each value, or the gap, replaced by its image
abbrev pub map_both : {T U G H : Type 0} → (T → U) → (G → H) → Around T G → Around U H
map_both f g (Single a) = Single (f a)
map_both f g (Ambiguous a b) = Ambiguous (f a) (f b)
map_both f g (Gap gap) = Gap (g gap)
