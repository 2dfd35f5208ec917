-- The walk's steps: what one segment adds to an answer.
use Rattle.std.specs.{Prelude.{ℕ, ◌≡◌, ℤ, ◌-ℤ◌, ◌≤ℤ◌, ◌<ℤ◌, ◌⊎◌, FitsSigned, Option, Some}, Int.{w64}}
use Rattle.{
  offset_core.specs.declared.local_result.LocalResult.{LocalResult, TheVariants.{Single}},
  tz_base.specs.LocalTypes.{LocalType},
  tz_info.specs.{Leaps.{IsLeapTime, least_time}, Steps.{Segments.{segment_of}, Answers.{joined}, WallPieces.{ShownAmong}}, WallClocks.{Shows}},
  tz_info.specs.Zones.{Zone, HasType, TypeAt},
}

-- the type at the second u, which lies in segment i, is t
pub record TypeIn (z : Zone) (i : ℕ) (u : ℤ) (t : LocalType) : Type 0 where
  pub type : TypeAt z u t
  pub segment : segment_of z u ≡ i

-- the second u shows the local time, and lies in one of the first n segments
abbrev pub IsShownIn : Zone → ℤ → ℕ → ℤ → LocalType → Type 0
IsShownIn z local n = ShownAmong z 0 n local

-- the one second that could show the local time at the offset was asked, and is added after all others if it does
abbrev pub IsAskedLast : (ℤ → LocalType → Type 0) → ℤ → ℤ → LocalResult LocalType → LocalResult LocalType → Type 0
IsAskedLast in_force local offset before after =
    ((after ≡ before) × ((t : LocalType) → Shows in_force local (local -ℤ offset) t → ⊥))
    ⊎ ((t : LocalType) × Shows in_force local (local -ℤ offset) t × (after ≡ joined before (Single t)))

-- the one second that could show the local time by the type of that index has that leap time
pub record IsCandidate (z : Zone) (local : ℤ) (index : ℕ) (type : LocalType) (leap_time : ℤ) : Type 0 where
  pub listed : HasType z index type
  pub of_second : IsLeapTime z.leaps (local -ℤ type.offset) leap_time
  pub fits : FitsSigned w64 (local -ℤ type.offset)
  pub leap_fits : least_time ≤ℤ leap_time

-- the leap time x comes at `since` or later, and before `until`, if that is one
pub record IsTimeWithin (since : ℤ) (until : Option ℤ) (x : ℤ) : Type 0 where
  pub from : since ≤ℤ x
  pub before : (end : ℤ) → until ≡ Some end → x <ℤ end

-- it was tried: added after all others if its leap time is one of those
pub record IsTried (z : Zone) (local : ℤ) (index : ℕ) (since : ℤ) (until : Option ℤ) (before after : LocalResult LocalType) : Type 0 where
  pub type : LocalType
  pub leap_time : ℤ
  pub candidate : IsCandidate z local index type leap_time
  pub tried : (IsTimeWithin since until leap_time × (after ≡ joined before (Single type))) ⊎ ((IsTimeWithin since until leap_time → ⊥) × (after ≡ before))
