-- Wall clocks of a zone whose offsets are nothing but seconds, and of one whose offset never changes.
use Rattle.offset_core.specs.declared.local_result.LocalResult.TheVariants.{Single}
use Rattle.zoned_time.proofs.Words.{AreOffsetsFor, Each, IsBeforeGap, IsOffsetBeforeGap, IsShownOnce, IsWallAnswer, IsWide, IsWithinDay, LocalResult, Meaning}
use Rattle.zoned_time.proofs.Words.{None as none, SameLaw, ShowsByOffset, Some, arith, home_law, law_by_seconds, map_of, numbers, refl, ℤ, ◌-ℤ◌, ◌≡◌}

-- the offsets of the seconds that show a wall clock are in force then, where an offset is only its seconds
pub wall_by_seconds : {O : Type 0} {m : Meaning O} (off : ℤ → ℤ) (l : ℤ) (offsets : LocalResult O)
    → IsWallAnswer (ShowsByOffset off l) (map_of m.seconds offsets)
    → Each (λ o. SameLaw (home_law m o) (law_by_seconds off)) offsets → AreOffsetsFor {m = m} (law_by_seconds off) l offsets
wall_by_seconds = grind numbers

-- and so is the one before a gap at the second before it
pub gap_by_seconds : {O : Type 0} {m : Meaning O} (off : ℤ → ℤ) (l : ℤ) (o : O) → IsBeforeGap off l (m.seconds o)
    → SameLaw (home_law m o) (law_by_seconds off) → IsOffsetBeforeGap {m = m} (law_by_seconds off) l (Some o)
gap_by_seconds off l o gap same = (gap, gap.before, same)

-- what a clock may show, it shows once
pub shown_once : (k l : ℤ) → IsWithinDay k → IsWide l → IsShownOnce (ShowsByOffset (λ _. k) l) k
shown_once k l day wide = record {
  second = l -ℤ k;
  shown = record { in_zone = (omega numbers, omega numbers); offset = refl; shown = omega numbers };
  only = λ u j s. omega numbers;
}

-- so the answer is the offset itself
pub constant_wall : {O : Type 0} (m : Meaning O) (offset : O) (k l : ℤ)
    → m.seconds offset ≡ k → SameLaw (home_law m offset) (law_by_seconds (λ _. k)) → IsWithinDay k → IsWide l
    → AreOffsetsFor {m = m} (law_by_seconds (λ _. k)) l (Single offset)
constant_wall = grind (arith, wall_by_seconds, shown_once)

-- and no local time lies in a gap
pub constant_no_gap : {O : Type 0} (m : Meaning O) (k l : ℤ)
    → IsWithinDay k → IsWide l → IsOffsetBeforeGap {m = m} (law_by_seconds (λ _. k)) l none
constant_no_gap m k l day wide = let once = shown_once k l day wide in (once.second, k, once.shown)
