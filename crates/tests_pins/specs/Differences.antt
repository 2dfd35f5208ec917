-- Zones of one type, and stretches in which two of them differ.
use Rattle.std.specs.Prelude.{◌≡◌, ℤ, pos, false, [], ◌∷◌, Some}
use Rattle.tz_base.specs.LocalTypes.{LocalType}
use Rattle.tests_pins.specs.NewYork.{edt, est}
use Rattle.tz_info.specs.declared.zone.ask.differences.Difference.{Difference}

-- that type, at each second
abbrev pub always : LocalType → ℤ → LocalType → Type 0
always t u s = s ≡ t

-- the types of `<+06>-6` and `<+05>-5`
abbrev pub six_ahead : LocalType
six_ahead = record { offset = pos 21_600; dst = false; name = Some (43 ∷ 48 ∷ 54 ∷ []) }

abbrev pub five_ahead : LocalType
five_ahead = record { offset = pos 18_000; dst = false; name = Some (43 ∷ 48 ∷ 53 ∷ []) }

-- the hour from the second 1709229600 on, which is 2024-03-01 00:00 at six hours ahead of UTC
abbrev pub hour_of : LocalType → LocalType → Difference
hour_of old new = record { from = pos 1_709_229_600; until = pos 1_709_233_200; old = old; new = new }

-- the hour from 2021-03-14 07:00:00 UTC on
abbrev pub in_march : Difference
in_march = record { from = pos 1_615_705_200; until = pos 1_615_708_800; old = est; new = edt }
