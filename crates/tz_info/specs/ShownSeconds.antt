-- When clocks show certain local times: the first and the last second of a stretch of local time, such as a day, and the first second at or
-- after a local time.
use Rattle.std.specs.{Prelude.{ℤ, ◌+ℤ◌, ◌≤ℤ◌, ◌<ℤ◌, FitsSigned, Option, MatchOption}, Int.{w64}}
use Rattle.offset_core.specs.WallAnswer.{IsNeverShown}
use Rattle.tz_base.specs.LocalTypes.{LocalType}
use Rattle.tz_info.specs.{declared.zone.ask.shown_seconds.ShownSeconds.{ShownSeconds}, WallClocks.{Shows}}

-- at the Unix time u, one of 64 bits, the type t is in force, and a clock of that type shows the local time `from`, or a later one that
-- comes before `until`
pub record ShowsWithin (in_force : ℤ → LocalType → Type 0) (from until u : ℤ) (t : LocalType) : Type 0 where
  pub fits : FitsSigned w64 u
  pub type : in_force u t
  pub since : from ≤ℤ (u +ℤ t.offset)
  pub before : (u +ℤ t.offset) <ℤ until

-- u is the least second that shows a local time of the stretch, and t is its type
pub record IsFirstWithin (in_force : ℤ → LocalType → Type 0) (from until u : ℤ) (t : LocalType) : Type 0 where
  pub shown : ShowsWithin in_force from until u t
  pub first : (v : ℤ) (s : LocalType) → ShowsWithin in_force from until v s → u ≤ℤ v

-- u is the greatest second that shows a local time of the stretch, and t is its type
pub record IsLastWithin (in_force : ℤ → LocalType → Type 0) (from until u : ℤ) (t : LocalType) : Type 0 where
  pub shown : ShowsWithin in_force from until u t
  pub last : (v : ℤ) (s : LocalType) → ShowsWithin in_force from until v s → v ≤ℤ u

-- no second shows a local time of the stretch
abbrev pub IsNeverWithin : (ℤ → LocalType → Type 0) → ℤ → ℤ → Type 0
IsNeverWithin in_force from until = IsNeverShown (ShowsWithin in_force from until)

-- the least and the greatest second that shows a local time of the stretch, with their types
pub record AreEndsWithin (in_force : ℤ → LocalType → Type 0) (from until : ℤ) (s : ShownSeconds) : Type 0 where
  pub first : IsFirstWithin in_force from until s.first.at s.first.local_time_type
  pub last : IsLastWithin in_force from until s.last.at s.last.local_time_type

-- the first and the last second that show a local time of the stretch, or nothing if no second does
abbrev pub AreShownWithin : (ℤ → LocalType → Type 0) → ℤ → ℤ → Option ShownSeconds → Type 0
AreShownWithin in_force from until found = MatchOption found (IsNeverWithin in_force from until) (AreEndsWithin in_force from until)

-- at the Unix time u, one of 64 bits, the type t is in force, and a clock of that type shows that local time or a later one
pub record ShowsAtOrAfter (in_force : ℤ → LocalType → Type 0) (local u : ℤ) (t : LocalType) : Type 0 where
  pub fits : FitsSigned w64 u
  pub type : in_force u t
  pub reached : local ≤ℤ (u +ℤ t.offset)

-- u is the least second that shows the local time or a later one, and t is its type
pub record IsFirstAtOrAfter (in_force : ℤ → LocalType → Type 0) (local u : ℤ) (t : LocalType) : Type 0 where
  pub shown : ShowsAtOrAfter in_force local u t
  pub first : (v : ℤ) (s : LocalType) → ShowsAtOrAfter in_force local v s → u ≤ℤ v

-- at a Unix time of 64 bits at or before t a clock of the type in force shows the local time l, and at none of them a later one
pub record IsLastReached (in_force : ℤ → LocalType → Type 0) (t l : ℤ) : Type 0 where
  pub at : ℤ
  pub local_type : LocalType
  pub not_after : at ≤ℤ t
  pub shown : Shows in_force l at local_type
  pub last : (m u : ℤ) (s : LocalType) → u ≤ℤ t → Shows in_force m u s → m ≤ℤ l
