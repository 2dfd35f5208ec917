-- Clocks with one stretch of daylight saving time, and clocks that change each second.
use Rattle.std.specs.Prelude.{ℤ, pos, ◌≡◌, ◌≤ℤ◌, ◌<ℤ◌, ◌⊎◌, Bool, true, false, None}
use Rattle.tz_base.specs.LocalTypes.{LocalType}

-- a type of that offset and that DST flag, without an abbreviation
abbrev pub type_of : ℤ → Bool → LocalType
type_of offset dst = record { offset = offset; dst = dst; name = None }

-- standard time of the offset `before`, then daylight saving time of the offset `during` from one second until another one, and then
-- standard time of the offset `after`
abbrev pub summer : ℤ → ℤ → ℤ → ℤ → ℤ → ℤ → LocalType → Type 0
summer from until before during after u t =
    ((u <ℤ from) × (t ≡ type_of before false))
    ⊎ (((from ≤ℤ u) × (u <ℤ until)) × (t ≡ type_of during true))
    ⊎ ((until ≤ℤ u) × (t ≡ type_of after false))

-- standard time of UTC until 1970, and from then on each second another offset, all of them of daylight saving time
abbrev pub restless : ℤ → LocalType → Type 0
restless u t = ((u <ℤ pos 0) × (t ≡ type_of (pos 0) false)) ⊎ ((pos 0 ≤ℤ u) × (t ≡ type_of u true))
