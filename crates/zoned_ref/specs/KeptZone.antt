-- What a `KeptZone` and a `KeptChange` show, and why there is no kept zone.
use Rattle.std.specs.Prelude.{ℤ, ◌≡◌, ℕ, List}
use Rattle.tz_base.specs.declared.change.Change.{Change}
use Rattle.tz_info.specs.{Zones.{Zone, IsValid}, TzFiles.{IsTzFile, IsZoneFault}}
use Rattle.zoned_time.specs.{DateTime.{zoned}, Zone.{Law}}
use Rattle.zoned_ref.specs.{ZoneChange.{change_of_instants, AreAround}, ZoneOffset.{meaning_of, type_of}, declared.kept_change.KeptChange.{KeptChange}}
use Rattle.zoned_ref.specs.{declared.kept_zone.KeptZone.{KeptZone}, Offsets.{IsNarrow}, declared.keep_error.KeepError.{KeepError}}
use Rattle.zoned_ref.specs.{declared.keep_error.KeepError.TheVariants.{WideZone, OutOfMemory}, declared.keep_error.OpenError.{OpenError}}
use Rattle.tz_base.specs.declared.error.Error.TheVariants as faults
use Rattle.zoned_ref.specs.TimeZoneRef as borrowed
use Rattle.zoned_ref.specs.ZoneOffset as offsets
use Rattle.zoned_ref.specs.declared.keep_error.OpenError.TheVariants as why

-- the zone that it keeps
abbrev pub zone_of : KeptZone → Zone
zone_of k = borrowed.zone_of k.borrowed

-- the zone's offset at each second
abbrev pub off_of : KeptZone → ℤ → ℤ
off_of k = borrowed.off_of k.borrowed

-- the law of a zone
abbrev pub law_of : KeptZone → Law meaning_of
law_of k = offsets.law_of k.borrowed

-- the change that it shows
abbrev pub change_of : KeptChange → Change
change_of c = change_of_instants type_of (zoned c.before) (zoned c.at)

-- the change's instants are those of the zone
abbrev pub IsOfZone : KeptZone → KeptChange → Type 0
IsOfZone k c = AreAround (law_of k) (zoned c.before) (zoned c.at)

-- the zone that an error has
abbrev pub given_back : KeepError → Zone
given_back (WideZone z) = z
given_back (OutOfMemory z) = z

-- the zone z isn't kept for that reason: it is wide, or else there is no memory; the error has that very zone
abbrev pub IsRefused : Zone → KeepError → Type 0
IsRefused z (WideZone back) = (back ≡ z) × (IsNarrow z → ⊥)
IsRefused z (OutOfMemory back) = (back ≡ z) × IsNarrow z

-- the bytes have that fault, or memory ran out; or they are the file of a valid zone that is wide
abbrev pub IsNotOpened : List ℕ → OpenError → Type 0
IsNotOpened bytes (why.Zone e) = IsZoneFault bytes e
IsNotOpened bytes why.WideZone = (z : Zone) × IsTzFile bytes z × IsValid z × (IsNarrow z → ⊥)

-- the reason for which a zone isn't kept
abbrev pub reason_of : KeepError → OpenError
reason_of (WideZone z) = why.WideZone
reason_of (OutOfMemory z) = why.Zone faults.OutOfMemory
