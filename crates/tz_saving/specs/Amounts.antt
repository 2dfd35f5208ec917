-- The amount of daylight saving time in force. A zone says whether it is daylight saving time, not how much: the amount follows from
-- standard time before and after. If that leaves two amounts, the next use of the same type decides, or else what is usual.
use Rattle.std.specs.{Prelude.{ℤ, pos, ◌≡◌, ◌≢◌, ◌≤ℤ◌, ◌<ℤ◌, ◌⊎◌, int_lt, ◌&&◌, if◌then◌else◌, true, false, Option, Some, None, ◌-ℤ◌}, Ordering.{int_eq}}
use Rattle.tz_base.specs.{LocalTypes.{LocalType}, declared.change.Change.{Change}}
use Rattle.tz_info.specs.{Changes.{IsChange}, declared.rule.transition_rule.TransitionRule.{TransitionRule}, Zones.{Zone, TypeAt}}
use Rattle.tz_saving.specs.{Sides.{IsWithinReach, IsAfter, IsBefore, IsFound}, declared.saving.Saving.{Saving}}
use Rattle.offset_core.specs.Offset.{IsWithinDay}

-- how far the offset is from the standard offset of that side: not 0, and less than a day
pub record IsCandidate (side : ℤ → Type 0) (offset a : ℤ) : Type 0 where
  pub standard : ℤ
  pub of_side : side standard
  pub difference : a ≡ offset -ℤ standard
  pub some : a ≢ pos 0
  pub within : IsWithinDay a

-- the two candidates of the offset at the second u: by standard time before it, and by standard time after it
pub record AreCandidates (in_force : ℤ → LocalType → Type 0) (rule : Option TransitionRule) (u offset : ℤ) (early late : Option ℤ) : Type 0 where
  pub early_is : IsFound (IsCandidate (IsBefore in_force u) offset) early
  pub late_is : IsFound (IsCandidate (IsAfter in_force rule u) offset) late

-- there is one candidate, or two that are equal
abbrev pub IsOnly : Option ℤ → Option ℤ → ℤ → Type 0
IsOnly None None a = ⊥
IsOnly (Some early) None a = a ≡ early
IsOnly None (Some late) a = a ≡ late
IsOnly (Some early) (Some late) a = (a ≡ early) × (a ≡ late)

-- the first change after u to the type t, if that is within reach
pub record IsNextUse (in_force : ℤ → LocalType → Type 0) (t : LocalType) (u : ℤ) (c : Change) : Type 0 where
  pub is : IsChange in_force c
  pub to : c.after ≡ t
  pub later : u <ℤ c.at
  pub near : IsWithinReach in_force u c.at
  pub first : (d : Change) → IsChange in_force d → d.after ≡ t → u <ℤ d.at → c.at ≤ℤ d.at

-- when the type t is next used after u, a is the only candidate
pub record IsNextCandidate (in_force : ℤ → LocalType → Type 0) (rule : Option TransitionRule) (t : LocalType) (u a : ℤ) : Type 0 where
  pub change : Change
  pub next : IsNextUse in_force t u change
  pub early : Option ℤ
  pub late : Option ℤ
  pub candidates : AreCandidates in_force rule change.at t.offset early late
  pub only : IsOnly early late a

-- an hour
abbrev pub hour : ℤ
hour = pos 3_600

-- of two amounts an hour, or else the one forward if the other is backward, or else the early one
abbrev pub usual : ℤ → ℤ → ℤ
usual early late =
    if int_eq early hour then early
    else if int_eq late hour then late
    else if int_lt early (pos 0) && int_lt (pos 0) late then late
    else early

-- the amount by two candidates: the one that both are, or the one that the next use has, or else the usual one
pub data IsOfTwo (is_next : ℤ → Type 0) (early late a : ℤ) : Type 0 where
  Both : early ≡ late → a ≡ early → IsOfTwo is_next early late a
  Of_next : early ≢ late → (a ≡ early) ⊎ (a ≡ late) → is_next a → IsOfTwo is_next early late a
  Usual : early ≢ late → ¬ (is_next early) → ¬ (is_next late) → a ≡ usual early late → IsOfTwo is_next early late a

-- the amount by the candidates: an hour without any, the one that there is, or one of two
abbrev pub IsByCandidates : (ℤ → Type 0) → Option ℤ → Option ℤ → ℤ → Type 0
IsByCandidates is_next None None a = a ≡ hour
IsByCandidates is_next (Some early) None a = a ≡ early
IsByCandidates is_next None (Some late) a = a ≡ late
IsByCandidates is_next (Some early) (Some late) a = IsOfTwo is_next early late a

-- the amount at the second u, at which the type t is in force, with the DST flag
pub record IsFlaggedAmount (in_force : ℤ → LocalType → Type 0) (rule : Option TransitionRule) (u : ℤ) (t : LocalType) (a : ℤ) : Type 0 where
  pub early : Option ℤ
  pub late : Option ℤ
  pub candidates : AreCandidates in_force rule u t.offset early late
  pub by_candidates : IsByCandidates (IsNextCandidate in_force rule t u) early late a

-- the amount of daylight saving time in force at the second u; 0 in standard time
pub record IsAmount (in_force : ℤ → LocalType → Type 0) (rule : Option TransitionRule) (u a : ℤ) : Type 0 where
  pub type : LocalType
  pub in_force_then : in_force u type
  pub standard : type.dst ≡ false → a ≡ pos 0
  pub flagged : type.dst ≡ true → IsFlaggedAmount in_force rule u type a

-- the amount in force at the second u, and the offset without it
pub record IsSavingAt (z : Zone) (u : ℤ) (s : Saving) : Type 0 where
  pub amount_is : IsAmount (TypeAt z) z.rule u s.amount
  pub standard_is : (t : LocalType) → TypeAt z u t → s.standard_offset ≡ t.offset -ℤ s.amount
