-- The instants at which the clocks of a parsed zone show a local date-time, and what a `WallClock` shows.
use Rattle.std.specs.Prelude.{ℤ, Option, Some as some, None as none, option_map}
use Rattle.offset_core.specs.{declared.local_result.LocalResult.{LocalResult}, LocalResult.{map_of}, WallAnswer.{IsWallAnswer}, FixedOffset.{seconds_of}}
use Rattle.naive_base.specs.Reading.{Reading}
use Rattle.tz_base.specs.LocalTypes.{LocalType}
use Rattle.tz_info.specs.{WallClocks.{Shows}, Zones.{Zone, TypeAt}}
use Rattle.zoned_time.specs.{Relocal.{AreInstantsOf}, Zoned.{Zoned, in_seconds}, DateTime.{zoned}}
use Rattle.zoned_ref.specs.{Offsets.{IsNarrow}, declared.wall_clock.WallClock.{WallClock}}

-- the types in force at the first and at the last second of 64 bits at which the clocks of the zone show l
abbrev pub AreTypesFor : Zone → Reading → LocalResult LocalType → Type 0
AreTypesFor z l types = IsWallAnswer (Shows (TypeAt z) l.s) types

-- each of their offsets gives its instant; if the UTC date-time of one is out of range, none has
abbrev pub AreInstantsAt : Reading → LocalResult LocalType → LocalResult (Zoned ℤ) → Type 0
AreInstantsAt l types instants = AreInstantsOf (λ k. k) l (map_of (λ t. t.offset) types) instants

-- only a narrow zone has instants
abbrev pub AreInstantsFor : Zone → Reading → Option (LocalResult (Zoned ℤ)) → Type 0
AreInstantsFor z l (some instants) = IsNarrow z × ((types : LocalResult LocalType) → AreTypesFor z l types → AreInstantsAt l types instants)
AreInstantsFor z l none = IsNarrow z → ⊥

-- the types by which the clocks of the zone show l, and the instants if all are in range
pub record IsWallClockOf (z : Zone) (l : Reading) (w : WallClock) : Type 0 where
  pub types : AreTypesFor z l w.types
  pub instants : AreInstantsFor z l (option_map (map_of (λ d. in_seconds seconds_of (zoned d))) w.instants)
