-- What a `ZoneOffset` shows.
use Rattle.std.specs.Prelude.{ℤ}
use Rattle.tz_base.specs.LocalTypes.{LocalType}
use Rattle.tz_info.specs.Zones.{TypeAt}
use Rattle.zoned_time.specs.Zone.{Meaning, Law}
use Rattle.zoned_ref.specs.{TimeZoneRef.{zone_of, off_of}, declared.{time_zone_ref.TimeZoneRef.{TimeZoneRef}, zone_offset.ZoneOffset.{ZoneOffset}}}

-- the type of local time that it is the offset of
abbrev pub type_of : ZoneOffset → LocalType
type_of o = o.local_type.now

-- how many seconds clocks are ahead of UTC
abbrev pub ahead_of : ZoneOffset → ℤ
ahead_of o = (type_of o).offset

-- the offsets of the zone that it came from
abbrev pub home_of : ZoneOffset → ℤ → ℤ
home_of o = off_of o.zone

-- at the second u it is the offset of the type in force in that zone
abbrev pub IsInForce : TimeZoneRef → ℤ → ZoneOffset → Type 0
IsInForce r u o = TypeAt (zone_of r) u (type_of o)

-- what its offsets mean
abbrev pub meaning_of : Meaning ZoneOffset
meaning_of = record { seconds = ahead_of; home = home_of; home_in_force = λ o. IsInForce o.zone }

-- the law of a zone
abbrev pub law_of : TimeZoneRef → Law meaning_of
law_of r = record { off = off_of r; in_force = IsInForce r }
