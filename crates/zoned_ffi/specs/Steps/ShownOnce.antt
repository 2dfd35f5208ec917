-- Local times that one second shows each, by one offset.
use Rattle.std.specs.Prelude.{ℤ, ◌≡◌, ◌≤ℤ◌, ◌<ℤ◌}
use Rattle.naive_base.specs.Range.{IsInRange}
use Rattle.offset_core.specs.WallAnswer.{IsShownOnce}
use Rattle.tz_base.specs.LocalTypes.{LocalType, IsUtOffset}
use Rattle.tz_info.specs.{WallClocks.{Shows}, Zones.{Zone, TypeAt}}
use Rattle.zoned_ffi.specs.declared.local_lookups.Held.{Held}

-- the local time is in the calendar's range, and one second shows it, at which that offset is in force
pub record IsOnceBy (z : Zone) (local offset : ℤ) : Type 0 where
  pub in_range : IsInRange local
  pub type : LocalType
  pub once : IsShownOnce (Shows (TypeAt z) local) type
  pub same : offset ≡ type.offset
  pub is_offset : IsUtOffset offset

-- all local times from its first one on, and before its end, are such, by its offset
abbrev pub IsHeldOf : Zone → Held → Type 0
IsHeldOf z held = (local : ℤ) → held.first ≤ℤ local → local <ℤ held.end → IsOnceBy z local held.offset
