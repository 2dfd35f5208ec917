-- Lawful zones: the offsets of a zone, and what its clocks show. Seconds count from 1970-01-01 00:00:00.
use Rattle.std.specs.Prelude.{◌≡◌, ◌↔◌, ℤ, pos, neg_ℤ, ◌+ℤ◌, ◌-ℤ◌, ◌*ℤ◌, ◌≤ℤ◌, ◌<ℤ◌}
use Rattle.offset_core.specs.{declared.local_result.LocalResult.{LocalResult}, declared.local_result.LocalResult.TheVariants.{Single, Ambiguous, None}}
use Rattle.offset_core.specs.{LocalResult.{map_of}, WallAnswer.{IsWallAnswer}}
use Rattle.naive_base.specs.{declared.date.NaiveDate.{NaiveDate}, NaiveDate.{day_of}}

-- the seconds at which a zone has an offset: the range of date-times, widened by two days each way
abbrev pub IsZoneSecond : ℤ → Type 0
IsZoneSecond u = (neg_ℤ (pos 8_334_601_401_600) ≤ℤ u) × (u ≤ℤ pos 8_210_267_049_599)

-- two zones have the same offset at each second
abbrev pub SameOffsets : (ℤ → ℤ) → (ℤ → ℤ) → Type 0
SameOffsets f g = (u : ℤ) → IsZoneSecond u → f u ≡ g u

-- the second that a date means: its midnight
abbrev pub midnight_of : NaiveDate → ℤ
midnight_of date = day_of date *ℤ pos 86_400

-- what offsets mean: how many seconds local time is ahead of UTC; and, of the zone that each came from, its offset at each
-- second and which offsets are in force then
pub record Meaning (O : Type 0) : Type 1 where
  pub seconds : O → ℤ
  pub home : O → ℤ → ℤ
  pub home_in_force : O → ℤ → O → Type 0

-- the law of a zone: its offset at each second, and which offsets are in force then
pub record Law {O : Type 0} (meaning : Meaning O) : Type 1 where
  pub off : ℤ → ℤ
  pub in_force : ℤ → O → Type 0

-- the law of the zone that an offset came from
abbrev pub home_law : {O : Type 0} (m : Meaning O) → O → Law m
home_law m offset = record { off = m.home offset; in_force = m.home_in_force offset }

-- the meaning of offsets that are nothing but seconds: an offset in force has the zone's seconds
abbrev pub meaning_by_seconds : {O : Type 0} → (O → ℤ) → (O → ℤ → ℤ) → Meaning O
meaning_by_seconds seconds home =
    record { seconds = seconds; home = home; home_in_force = λ o u p. seconds p ≡ home o u }

abbrev pub law_by_seconds : {O : Type 0} {m : Meaning O} → (ℤ → ℤ) → Law m
law_by_seconds {m = m} off = record { off = off; in_force = λ u o. m.seconds o ≡ off u }

-- of a law the seconds alone
abbrev pub seconds_alone : {O : Type 0} {m : Meaning O} → Law m → Law (meaning_by_seconds m.seconds m.home)
seconds_alone law = law_by_seconds law.off

-- two laws have the same offset at each second, and the same offsets in force then
pub record SameLaw {O : Type 0} {m : Meaning O} (a b : Law m) : Type 0 where
  pub offsets : SameOffsets a.off b.off
  pub in_force : (u : ℤ) → IsZoneSecond u → (o : O) → a.in_force u o ↔ b.in_force u o

-- a zone whose clocks are never set
abbrev pub IsFixed : {O : Type 0} {m : Meaning O} → Law m → Type 0
IsFixed law = (u v : ℤ) → IsZoneSecond u → IsZoneSecond v → law.off u ≡ law.off v

-- a zone whose clocks are those of UTC
abbrev pub IsUtc : {O : Type 0} {m : Meaning O} → Law m → Type 0
IsUtc law = (u : ℤ) → IsZoneSecond u → law.off u ≡ pos 0

-- an offset that the zone gives at second u: one in force then, which knows that zone
pub record IsOffsetAt {O : Type 0} {m : Meaning O} (law : Law m) (u : ℤ) (offset : O) : Type 0 where
  pub there : m.seconds offset ≡ law.off u
  pub in_force : law.in_force u offset
  pub same_home : SameLaw (home_law m offset) law

-- at second u a clock of the zone shows l, and is k seconds ahead of UTC
pub record ShowsByOffset (off : ℤ → ℤ) (l u k : ℤ) : Type 0 where
  pub in_zone : IsZoneSecond u
  pub offset : k ≡ off u
  pub shown : u +ℤ k ≡ l

-- p holds of each value of the answer
abbrev pub Each : {O : Type 0} → (O → Type 0) → LocalResult O → Type 0
Each p None = Unit {0}
Each p (Single a) = p a
Each p (Ambiguous a b) = p a × p b

-- the offsets that a zone gives for the wall clock l: the one at the only second at which its clocks show l, or those at
-- the first and at the last of several, each in force when a clock with it shows l
pub record AreOffsetsFor {O : Type 0} {m : Meaning O} (law : Law m) (l : ℤ) (offsets : LocalResult O) : Type 0 where
  pub wall : IsWallAnswer (ShowsByOffset law.off l) (map_of m.seconds offsets)
  pub in_force : Each (λ o. law.in_force (l -ℤ m.seconds o) o) offsets
  pub same_home : Each (λ o. SameLaw (home_law m o) law) offsets

-- the second s lies in the stretch from `from` to before `until`, and the zone has this offset at each second of it
pub record IsOffsetStretch (off : ℤ → ℤ) (s from until offset : ℤ) : Type 0 where
  pub not_before : from ≤ℤ s
  pub before : s <ℤ until
  pub same : (u : ℤ) → IsZoneSecond u → from ≤ℤ u → u <ℤ until → off u ≡ offset

-- l is the last local time that clocks have shown up to the second t, at seconds at which zones have offsets
pub record IsReachedAt (off : ℤ → ℤ) (t l : ℤ) : Type 0 where
  pub at : ℤ
  pub in_zone : IsZoneSecond at
  pub not_after : at ≤ℤ t
  pub shown : (at +ℤ off at) ≡ l
  pub last : (u : ℤ) → IsZoneSecond u → u ≤ℤ t → (u +ℤ off u) ≤ℤ l
