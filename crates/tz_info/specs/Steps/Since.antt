-- From a second on: the last local time that clocks show up to another second, and the first second at or after a local time.
use Rattle.std.specs.Prelude.{ℤ, pos, ◌-ℤ◌, ◌≤ℤ◌}
use Rattle.{
  tz_base.specs.LocalTypes.{LocalType},
  tz_info.specs.{Leaps.{IsNear}, ShownSeconds.{ShowsAtOrAfter}, WallClocks.{Shows}},
}

-- l is the last local time that clocks show from the second `begin` to t
pub record IsReachedSince (in_force : ℤ → LocalType → Type 0) (begin t l : ℤ) : Type 0 where
  pub at : ℤ
  pub local_type : LocalType
  pub near : IsNear at
  pub from : begin ≤ℤ at
  pub not_after : at ≤ℤ t
  pub shown : Shows in_force l at local_type
  pub last : (m u : ℤ) (s : LocalType) → begin ≤ℤ u → u ≤ℤ t → Shows in_force m u s → m ≤ℤ l
  pub least : (t -ℤ pos 2_147_483_648) ≤ℤ l

-- u is the first second from `begin` on at which clocks show the local time or a later one, and t its type
pub record IsFirstSince (in_force : ℤ → LocalType → Type 0) (begin local u : ℤ) (t : LocalType) : Type 0 where
  pub near : IsNear u
  pub from : begin ≤ℤ u
  pub shown : ShowsAtOrAfter in_force local u t
  pub first : (v : ℤ) (s : LocalType) → begin ≤ℤ v → ShowsAtOrAfter in_force local v s → u ≤ℤ v
