-- What the clocks of the odd zone show.
use Rattle.demo_own_zone.proofs.Words.{IsBeforeGap, IsShownBetween, IsWide, ShowsByOffset, arith, floor_mod, floor_mod_parts, floors, odd_offset, pos, ℤ}
use Rattle.demo_own_zone.proofs.Words.{◌-ℤ◌, ◌≡◌}

-- numbers and floors: a second is twice its half, and one more if it is odd
pub ruleset halves = (arith, floors, floor_mod_parts)

-- an even second is shown at the second before it, with the offset 1, and at itself, with the offset 0
pub shown_twice : (l : ℤ) → IsWide l → floor_mod l 2 ≡ 0 → IsShownBetween (ShowsByOffset odd_offset l) (pos 1) (pos 0)
shown_twice l wide even = record {
  first = l -ℤ pos 1;
  last = l;
  several = grind halves;
  at_first = grind halves;
  at_last = grind halves;
  not_before = grind halves;
  not_after = grind halves;
}

-- an odd second is never shown: at itself clocks show one more, and at the second before it they show that second
pub shown_never : (l : ℤ) → IsWide l → floor_mod l 2 ≡ 1 → IsBeforeGap odd_offset l (pos 0)
shown_never l wide odd = record {
  never = grind halves;
  first = l;
  in_zone = grind halves;
  more = grind halves;
  least = grind halves;
  before = grind halves;
}
