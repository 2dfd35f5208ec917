-- When the clocks of a zone change, as instants.
use Rattle.std.specs.Prelude.{◌≡◌, ℤ, pos, ◌-ℤ◌, ◌≤ℤ◌, ◌<ℤ◌}
use Rattle.naive_base.specs.{Range.{first_second, last_second, IsInRange}, Stamp.{of_secs}}
use Rattle.tz_base.specs.{LocalTypes.{LocalType}, declared.change.Change.{Change}}
use Rattle.tz_info.specs.Zones.{Zone, TypeAt}
use Rattle.zoned_time.specs.{DateTime.{zoned}, Zone.{Meaning, Law}, Zoned.{Zoned, IsAt}}
use Rattle.zoned_ref.specs.{ZoneOffset.{law_of, type_of}, declared.{time_zone_ref.TimeZoneRef.{TimeZoneRef}, zone_change.ZoneChange.{ZoneChange}}}

-- after the second s, up to the last second of the range
abbrev pub IsAfter : ℤ → ℤ → Type 0
IsAfter s u = (s <ℤ u) × (u ≤ℤ last_second)

-- after the first second of the range, up to the second s
abbrev pub IsUpTo : ℤ → ℤ → Type 0
IsUpTo s u = (first_second <ℤ u) × (u ≤ℤ s)

-- the change that two instants show: it comes at the second of the latter, and leads from the type of the former's offset to
-- that of the latter's
abbrev pub change_of_instants : {O : Type 0} → (O → LocalType) → Zoned O → Zoned O → Change
change_of_instants type_of before at = record { at = at.utc.s; before = type_of before.offset; after = type_of at.offset }

-- they are whole seconds, one right after the other, each with the offset that the zone gives there
pub record AreAround {O : Type 0} {m : Meaning O} (law : Law m) (d e : Zoned O) : Type 0 where
  pub before : IsAt law (of_secs (e.utc.s -ℤ pos 1) 0) d
  pub at : IsAt law (of_secs e.utc.s 0) e

-- the change that a `ZoneChange` shows
abbrev pub change_of : ZoneChange → Change
change_of c = change_of_instants type_of (zoned c.before) (zoned c.at)

-- the change's instants are those of the zone
abbrev pub IsOfZone : TimeZoneRef → ZoneChange → Type 0
IsOfZone r c = AreAround (law_of r) (zoned c.before) (zoned c.at)

-- at the second u the clocks of a zone are as at the second s: they have the same offset, and by the same type
pub record StandAlike (z : Zone) (off : ℤ → ℤ) (s u : ℤ) : Type 0 where
  pub offset : off u ≡ off s
  pub in_force : (t : LocalType) → TypeAt z s t → TypeAt z u t

-- the clocks of a zone are as at the second s at each second in range that `within` accepts
abbrev pub StandWithin : Zone → (ℤ → ℤ) → ℤ → (ℤ → Type 0) → Type 0
StandWithin z off s within = (u : ℤ) → IsInRange u → within u → StandAlike z off s u
