-- A zone that is UTC, a fixed offset, or a kept zone.
use Rattle.std.specs.Prelude.{◌≡◌, ℤ, pos}
use Rattle.zoned.specs.{FixedOffset.{seconds_of}, Zone.{Law, Meaning, law_by_seconds}, declared.ZoneOffset.{ZoneOffset}}
use Rattle.demo_examples.specs.declared.any_zone.{AnyOffset.{AnyOffset}, AnyZone.{AnyZone}}
use Rattle.zoned.specs.KeptZone as kept
use Rattle.zoned.specs.ZoneOffset as named
use Rattle.demo_examples.specs.declared.any_zone.AnyOffset.TheVariants as offsets
use Rattle.demo_examples.specs.declared.any_zone.AnyZone.TheVariants as zones

-- how many seconds clocks are ahead of UTC
abbrev pub ahead_of : AnyOffset → ℤ
ahead_of offsets.Utc = pos 0
ahead_of (offsets.Fixed o) = seconds_of o
ahead_of (offsets.Named o) = named.ahead_of o

-- the offsets of the zone that it came from
abbrev pub home_of : AnyOffset → ℤ → ℤ
home_of offsets.Utc u = pos 0
home_of (offsets.Fixed o) u = seconds_of o
home_of (offsets.Named o) u = named.home_of o u

-- of a kept zone the offsets that it has then are in force
abbrev pub IsNamed : (ZoneOffset → Type 0) → AnyOffset → Type 0
IsNamed in_force offsets.Utc = ⊥
IsNamed in_force (offsets.Fixed o) = ⊥
IsNamed in_force (offsets.Named o) = in_force o

-- the offsets that are in force in the zone that an offset came from: of UTC and of a fixed offset those of its seconds
abbrev pub IsInForceAtHome : AnyOffset → ℤ → AnyOffset → Type 0
IsInForceAtHome offsets.Utc u p = ahead_of p ≡ pos 0
IsInForceAtHome (offsets.Fixed o) u p = ahead_of p ≡ seconds_of o
IsInForceAtHome (offsets.Named o) u p = IsNamed (named.meaning_of.home_in_force o u) p

-- what its offsets mean
abbrev pub meaning_of : Meaning AnyOffset
meaning_of = record { seconds = ahead_of; home = home_of; home_in_force = IsInForceAtHome }

-- the law of a zone
abbrev pub law_of : AnyZone → Law meaning_of
law_of zones.Utc = law_by_seconds (λ _. pos 0)
law_of (zones.Fixed o) = law_by_seconds (λ _. seconds_of o)
law_of (zones.Named k) = record { off = kept.off_of k; in_force = λ u. IsNamed ((kept.law_of k).in_force u) }
