-- What a `TimeZoneRef` shows.
use Rattle.std.specs.Prelude.{ℤ, ◌++◌, length, slice_get, option_map}
use Rattle.tz_info.specs.Zones.{Zone}
use Rattle.zoned_ref.specs.{OffsetAt.{offset_at}, declared.time_zone_ref.TimeZoneRef.{TimeZoneRef}}
use Rattle.std.specs.Hash as fed

-- the zone that it borrows
abbrev pub zone_of : TimeZoneRef → Zone
zone_of r = r.zone.now

-- the zone's offset at each second
abbrev pub off_of : TimeZoneRef → ℤ → ℤ
off_of r = offset_at r.zone.now r.offsets

-- what a hash of it writes: how many transitions the zone has, and the offset of its first type
abbrev pub writes_of : Zone → fed.HashWrites
writes_of z = fed.usize (length z.transitions) ++ fed.option fed.i32 (option_map (λ t. t.offset) (slice_get z.types 0))
