-- Clock changes, and types that differ little.
use Rattle.std.specs.Prelude.{◌≡◌, ℤ, pos, ◌≤ℤ◌, ◌<ℤ◌, ◌⊎◌, true, false, [], ◌∷◌, Some, None}
use Rattle.tz_base.specs.{LocalTypes.{LocalType}, declared.change.Change.{Change}}
use Rattle.tz_info.specs.{Zones.{Zone, plain_zone}, declared.zone.ask.shown_seconds.ShownSeconds.{ShownSeconds}}
use Rattle.tests_pins.specs.NewYork.{est, edt}

-- a change at that second, from one type to another
abbrev pub change_at : ℤ → LocalType → LocalType → Change
change_at at before after = record { at = at; before = before; after = after }

-- 2021-03-14 07:00:00 UTC and 2021-11-07 06:00:00 UTC
abbrev pub spring : Change
spring = change_at (pos 1_615_705_200) est edt

abbrev pub autumn : Change
autumn = change_at (pos 1_636_264_800) edt est

-- one type before 1970 and another one from then on
abbrev pub at_epoch : LocalType → LocalType → ℤ → LocalType → Type 0
at_epoch before after u t = ((u <ℤ pos 0) × (t ≡ before)) ⊎ ((pos 0 ≤ℤ u) × (t ≡ after))

-- `CET`; the same under the name `MET`; and as daylight saving time
abbrev pub cet : LocalType
cet = record { offset = pos 3_600; dst = false; name = Some (67 ∷ 69 ∷ 84 ∷ []) }

abbrev pub renamed : LocalType
renamed = record { offset = pos 3_600; dst = false; name = Some (77 ∷ 69 ∷ 84 ∷ []) }

abbrev pub dst_cet : LocalType
dst_cet = record { offset = pos 3_600; dst = true; name = Some (67 ∷ 69 ∷ 84 ∷ []) }

-- `UTC`
abbrev pub utc : LocalType
utc = record { offset = pos 0; dst = false; name = Some (85 ∷ 84 ∷ 67 ∷ []) }

-- these two seconds, with their types
abbrev pub ends : ℤ → LocalType → ℤ → LocalType → ShownSeconds
ends u s v t = record { first = record { at = u; local_time_type = s }; last = record { at = v; local_time_type = t } }

-- standard time an hour ahead of UTC, without a name
abbrev pub unnamed : LocalType
unnamed = record { offset = pos 3_600; dst = false; name = None }

-- a day ahead of UTC
abbrev pub wide : Zone
wide = plain_zone (pos 86_400)
