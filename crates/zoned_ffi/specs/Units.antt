-- Units of time, and local times counted in them.
use Rattle.std.specs.{Prelude.{ℕ, ℤ, ◌≡◌, ◌≢◌, ◌+ℤ◌, ◌*ℤ◌, ◌≤ℤ◌, ◌<ℤ◌, pos, neg_ℤ, FitsSigned}, Int.{w64}}
use Rattle.gregorian.specs.Year.{floor_div}
use Rattle.tz_base.specs.LocalTypes.{LocalType}
use Rattle.tz_info.specs.{Zones.{Zone, TypeAt, IsTypeRefused}, declared.zone.ask.offset_stretch.OffsetStretch.{OffsetStretch}}
use Rattle.zoned_ffi.specs.declared.unit.Unit.{Unit}
use Rattle.zoned_ffi.specs.declared.unit.Unit.TheVariants as units

-- how many of the unit make a second
abbrev pub per_second : Unit → ℕ
per_second units.Seconds = 1
per_second units.Milliseconds = 1_000
per_second units.Microseconds = 1_000_000
per_second units.Nanoseconds = 1_000_000_000

-- there is a unit of which that count make a second
abbrev pub IsUnit : ℤ → Type 0
IsUnit count = (unit : Unit) × (count ≡ pos (per_second unit))

-- no time: the least number of 64 bits
abbrev pub no_time : ℤ
no_time = neg_ℤ (pos 9_223_372_036_854_775_808)

-- a time can be counted in 64 bits
abbrev pub IsCounted : ℤ → Type 0
IsCounted y = FitsSigned w64 y × (y ≢ no_time)

-- the offset in force at the second of the instant, added to it
abbrev pub local_by : Unit → ℤ → LocalType → ℤ
local_by unit instant t = instant +ℤ (t.offset *ℤ pos (per_second unit))

-- the local time of the instant
pub record IsLocal (z : Zone) (unit : Unit) (instant local : ℤ) : Type 0 where
  pub type : LocalType
  pub in_force : TypeAt z (floor_div instant (per_second unit)) type
  pub sum : local ≡ local_by unit instant type
  pub counted : IsCounted local

-- the instant has no local time: the zone has no type there, or it can't be counted
pub data IsWithout (z : Zone) (unit : Unit) (instant : ℤ) : Type 0 where
  no_type : IsTypeRefused z (floor_div instant (per_second unit)) → IsWithout z unit instant
  uncounted : (t : LocalType) → TypeAt z (floor_div instant (per_second unit)) t → ¬ (IsCounted (local_by unit instant t)) → IsWithout z unit instant

-- at each second of the stretch its offset is in force
abbrev pub IsOffsetStretch : Zone → OffsetStretch → Type 0
IsOffsetStretch z s = (u : ℤ) → s.from ≤ℤ u → u <ℤ s.until → (t : LocalType) × TypeAt z u t × (s.offset ≡ t.offset)
