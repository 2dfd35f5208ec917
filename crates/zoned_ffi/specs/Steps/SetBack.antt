-- Clocks that are an hour ahead of UTC before second 0, and not from then on: an example for pins.
use Rattle.std.specs.Prelude.{ℤ, ◌≡◌, ◌⊎◌, ◌≤ℤ◌, ◌<ℤ◌, pos, None, true, false}
use Rattle.tz_base.specs.LocalTypes.{LocalType}

abbrev pub summer : LocalType
summer = record { offset = pos 3_600; dst = true; name = None }

abbrev pub winter : LocalType
winter = record { offset = pos 0; dst = false; name = None }

abbrev pub set_back : ℤ → LocalType → Type 0
set_back u t = ((u <ℤ pos 0) × (t ≡ summer)) ⊎ ((pos 0 ≤ℤ u) × (t ≡ winter))
