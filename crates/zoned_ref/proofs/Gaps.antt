-- The type before a gap gives the offset before it.
use Rattle.zoned_ref.proofs.Words.{AreOffsetsOf, IsBeforeGap, IsNarrow, IsOffsetBeforeGap, IsWide, IsWithinDay, IsZoneSecond, Law, LocalType, Meaning, None}
use Rattle.zoned_ref.proofs.Words.{Some, TimeZoneRef, TypeAt, Zone, ZoneOffset, arith, ints, law_of, off_of, pos, sym, type_of, zone_of, ℤ, ◌+ℤ◌, ◌-ℤ◌, ◌≡◌}
use Rattle.zoned_ref.proofs.{Days.{same_offset}, Offsets.{type_within}, Walls.{same_law, shown_by_offset, shown_by_type}}
use Rattle.tz_info.specs.Gaps as types

pub before_within : (z : Zone) (l : ℤ) (t : LocalType) → IsNarrow z → types.IsTypeBeforeGap (TypeAt z) l t → IsWithinDay t.offset
before_within z l t narrow g = type_within z (g.first -ℤ pos 1) t narrow g.before

-- `off` shows the offsets of a narrow zone, and l is a local time in range
module _ (z : Zone) (off : ℤ → ℤ) (narrow : IsNarrow z) (of_zone : AreOffsetsOf z off) (l : ℤ) (wide : IsWide l) where
  pub before_gap : (t : LocalType) → types.IsTypeBeforeGap (TypeAt z) l t → (gap : IsBeforeGap off l t.offset) × TypeAt z (gap.first -ℤ pos 1) t
  before_gap t g =
      let c = g.first in let day = type_within z c g.more.type narrow g.more.here in let more = g.more.more in
      let late : ℤ = l +ℤ pos 86_400 in let there = of_zone late (grind (arith, ints)) in let there_day = type_within z late there.type narrow there.in_force in
      let to = g.least late (record { type = there.type; here = there.in_force; more = omega (arith, ints) }) in
      let inside : IsZoneSecond c = grind (arith, ints) in
      let inside_before : IsZoneSecond (c -ℤ pos 1) = (omega (arith, ints), omega (arith, ints)) in (
        record {
          never = λ u k s. let h = shown_by_offset z off l narrow of_zone u k s in g.never u h.0 h.1;
          first = c;
          in_zone = (inside, inside_before);
          more = rw (same_offset z off of_zone c g.more.type inside g.more.here) more;
          least = λ u inside_u m. let at = of_zone u inside_u in g.least u (record { type = at.type; here = at.in_force; more = rw at.offset at m });
          before = sym (same_offset z off of_zone (c -ℤ pos 1) t inside_before g.before);
        },
        g.before,
      )

pub gap_given : (r : TimeZoneRef) (l : ℤ) (o : ZoneOffset) → AreOffsetsOf (zone_of r) (off_of r) → IsWide l → o.zone ≡ r
    → types.IsTypeBeforeGap (TypeAt (zone_of r)) l (type_of o) → IsOffsetBeforeGap (law_of r) l (Some o)
gap_given r l o of_zone wide home g = let gap = before_gap (zone_of r) (off_of r) r.narrow of_zone l wide (type_of o) g in (gap.0, gap.1, same_law r o home)

pub no_gap : {O : Type 0} {m : Meaning O} (law : Law m) (z : Zone) (l : ℤ) → IsNarrow z → AreOffsetsOf z law.off → IsWide l → types.IsShown (TypeAt z) l
    → IsOffsetBeforeGap law l None
no_gap law z l narrow of_zone wide (u, t, s) = (u, t.offset, shown_by_type z law.off l narrow of_zone wide u t s)
