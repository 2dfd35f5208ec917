-- Zoned date-times: a date-time in UTC, and an offset.
use Rattle.std.specs.Prelude.{◌≡◌, ℤ, Option, Some, None}
use Rattle.offset_core.specs.{declared.fixed_offset.FixedOffset.{FixedOffset}, FixedOffset.{seconds_of}}
use Rattle.naive_base.specs.{declared.datetime.NaiveDateTime.{NaiveDateTime}, NaiveDateTime.{reading}, Range.{IsInRange}, Reading.{Reading, ahead}}
use Rattle.zoned_time.specs.Zone.{Meaning, Law, IsOffsetAt}

-- a date-time in UTC, and an offset
pub record Zoned (O : Type 0) : Type 0 where
  pub utc : Reading
  pub offset : O

-- the zoned date-time of the two fields of a `DateTime`. (Its word is `zoned`; the trait `TimeZone` can't cite that, since it names the trait.)
abbrev pub shown : {O : Type 0} → NaiveDateTime → O → Zoned O
shown utc offset = record { utc = reading utc; offset = offset }

-- what a clock with this offset shows at that instant
abbrev pub local_of : {O : Type 0} → (O → ℤ) → Zoned O → Reading
local_of seconds d = ahead d.utc (seconds d.offset)

-- the zoned date-time with its offset in plain seconds
abbrev pub in_seconds : {O : Type 0} → (O → ℤ) → Zoned O → Zoned ℤ
in_seconds seconds d = record { utc = d.utc; offset = seconds d.offset }

-- the date-time r in UTC with the zone's offset then
pub record IsAt {O : Type 0} {m : Meaning O} (law : Law m) (r : Reading) (d : Zoned O) : Type 0 where
  pub utc : d.utc ≡ r
  pub offset : IsOffsetAt law d.utc.s d.offset

-- that, if and only if r is in range
abbrev pub IsAtInRange : {O : Type 0} {m : Meaning O} → Law m → Reading → Option (Zoned O) → Type 0
IsAtInRange law r (Some d) = IsInRange r.s × IsAt law r d
IsAtInRange law r None = IsInRange r.s → ⊥

-- the same instant, with an offset that is nothing but its seconds
pub record IsFixedFrom {O : Type 0} (seconds : O → ℤ) (d : Zoned O) (e : Zoned FixedOffset) : Type 0 where
  pub utc : e.utc ≡ d.utc
  pub offset : seconds_of e.offset ≡ seconds d.offset
