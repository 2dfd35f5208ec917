-- The wall clock's answer over all seconds of 64 bits is the one over the range that zones answer in: whoever shows a
-- local date-time is less than a day away from it.
use Rattle.zoned_ref.proofs.Words.{AreOffsetsOf, IsNarrow, IsWallAnswer, IsWallAnswer-map_of, IsWide, IsWithinDay, LocalResult, LocalType, SameLaw, TimeZoneRef}
use Rattle.zoned_ref.proofs.Words.{TypeAt, Zone, ZoneOffset, arith, home_law, ints, law_of, map_of, meaning_of, off_of, type_of, zone_of, ℤ, ◌-ℤ◌}
use Rattle.zoned_ref.proofs.{Words.{◌≡◌}, Days.{same_offset}, Offsets.{type_within}}
use Rattle.tz_info.specs.WallClocks as types
use Rattle.zoned_time.specs.Zone as offsets

-- in a narrow zone each type of the answer is within a day
pub each_within : (z : Zone) (l : ℤ) → IsNarrow z → (answer : LocalResult LocalType) → IsWallAnswer (types.Shows (TypeAt z) l) answer
    → offsets.Each (λ t. IsWithinDay t.offset) answer
each_within z l narrow answer wall = grind (arith, type_within)

-- `off` shows the offsets of a narrow zone
module _ (z : Zone) (off : ℤ → ℤ) (l : ℤ) (narrow : IsNarrow z) (of_zone : AreOffsetsOf z off) where
  pub shown_by_offset : (u k : ℤ) → offsets.ShowsByOffset off l u k → (t : LocalType) × types.Shows (TypeAt z) l u t
  shown_by_offset u k s = grind (arith, ints)

  pub shown_by_type : IsWide l → (u : ℤ) (t : LocalType) → types.Shows (TypeAt z) l u t → offsets.ShowsByOffset off l u t.offset
  shown_by_type wide u t s = let day = type_within z u t narrow s.type in grind (arith, ints, same_offset z off of_zone u t)

  pub zone_wall : IsWide l → (answer : LocalResult LocalType)
      → IsWallAnswer (types.Shows (TypeAt z) l) answer → IsWallAnswer (offsets.ShowsByOffset off l) (map_of (λ t. t.offset) answer)
  zone_wall wide = IsWallAnswer-map_of (types.Shows (TypeAt z) l) (offsets.ShowsByOffset off l) (λ t. t.offset) (shown_by_type wide) shown_by_offset

-- the type is in force at the second that shows l by it
shown_in_force : (z : Zone) (l u : ℤ) (t : LocalType) → types.Shows (TypeAt z) l u t → TypeAt z (l -ℤ t.offset) t
shown_in_force z l u t s = grind (arith, ints)

-- an offset knows the zone that it came from
pub same_law : (r : TimeZoneRef) (o : ZoneOffset) → o.zone ≡ r → SameLaw (home_law meaning_of o) (law_of r)
same_law r o is = rw is (grind arith)

-- and their offsets are what the zone gives
pub offsets_given : (r : TimeZoneRef) (l : ℤ) (given : LocalResult ZoneOffset) → AreOffsetsOf (zone_of r) (off_of r) → IsWide l
    → offsets.Each (λ o. o.zone ≡ r) given
    → IsWallAnswer (types.Shows (TypeAt (zone_of r)) l) (map_of type_of given) → offsets.AreOffsetsFor (law_of r) l given
offsets_given r l given of_zone wide home wall =
    let offsets = zone_wall (zone_of r) (off_of r) l r.narrow of_zone wide (map_of type_of given) wall in grind (arith, shown_in_force, same_law)
