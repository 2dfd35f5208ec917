-- Where segments end on the wall-clock axis, and the first one in which clocks show a local time or a later one.
use Rattle.std.specs.{
  Prelude.{ℕ, suc, ℤ, pos, ◌≡◌, ◌-◌, ◌<◌, ◌≤◌, ◌-ℤ◌, ◌+ℤ◌, ◌≤ℤ◌, ◌<ℤ◌, ◌↔◌, List, length, Option, None, Some, slice_get, slice_index_or, FitsSigned},
  Int.{saturate_signed, w64},
}
use Rattle.tz_base.specs.LocalTypes.{IsUtOffset, LocalType}
use Rattle.tz_info.specs.Steps.Segments.{begin_of, index_of}
use Rattle.tz_base.specs.declared.transition.Transition.{Transition}

abbrev pub offset_of : Option LocalType → ℤ
offset_of (Some t) = t.offset
offset_of None = pos 0

-- what a clock of its type would show at the end of the segment before that place, or the nearest number of 64 bits
abbrev pub end_of : List LocalType → List Transition → ℕ → ℤ
end_of types entries place = saturate_signed w64 (begin_of entries place +ℤ offset_of (slice_get types (index_of entries (place - 1))))

-- in one of the segments before that place clocks show the local time or a later one: the segment ends later
pub record IsReached (types : List LocalType) (entries : List Transition) (place : ℕ) (local : ℤ) : Type 0 where
  pub by : ℕ
  pub some : 0 < by
  pub within : by ≤ place
  pub later : local <ℤ end_of types entries by

-- the latest end of the segments before that place
abbrev pub IsLatestEnd : List LocalType → List Transition → ℕ → ℤ → Type 0
IsLatestEnd types entries place end = (local : ℤ) → FitsSigned w64 local → (local <ℤ end) ↔ IsReached types entries place local

-- each segment ends later than the one before
abbrev pub AreEndsRising : List LocalType → List Transition → Type 0
AreEndsRising types entries = (k : ℕ) → 0 < k → k < length entries → end_of types entries k <ℤ end_of types entries (suc k)

-- the latest end of the first segments, for each number of them
pub record AreMaxima (types : List LocalType) (entries : List Transition) (maxima : List ℤ) : Type 0 where
  pub count : length maxima ≡ length entries
  pub reached : (k : ℕ) (d local : ℤ) → k < length maxima → FitsSigned w64 local → (local <ℤ slice_index_or maxima k d) ↔ IsReached types entries (suc k) local

-- the segments' ends rise, or these are the latest ones
abbrev pub AreEnds : List LocalType → List Transition → List ℤ → Type 0
AreEnds types entries maxima = (length maxima ≡ 0 → AreEndsRising types entries) × (0 < length maxima → AreMaxima types entries maxima)

-- in no segment before that place clocks show the local time or a later one; in the one there they do, or it is the last
pub record IsFirstSegment (types : List LocalType) (entries : List Transition) (local : ℤ) (place : ℕ) : Type 0 where
  pub within : place ≤ length entries
  pub before : IsReached types entries place local → ⊥
  pub here : place < length entries → local <ℤ end_of types entries (suc place)

-- from the second `at` on clocks show that local time or a later one in the segment at that place, whose type is t
pub record IsFirstOf (types : List LocalType) (entries : List Transition) (place : ℕ) (local at : ℤ) (t : LocalType) : Type 0 where
  pub listed : slice_get types (index_of entries place) ≡ Some t
  pub offset : IsUtOffset t.offset
  pub from : (u : ℤ) → (at ≤ℤ u) ↔ ((begin_of entries place ≤ℤ u) × ((local -ℤ t.offset) ≤ℤ u))
