-- Leap seconds (RFC 8536 section 3.2, "leap-second records"). A Unix time counts seconds from 1970-01-01 00:00:00 UTC
-- without the leap seconds, a leap time counts them too; an entry's correction is the difference from its leap time on.
use Rattle.std.specs.Prelude.{ℕ, ◌≡◌, ◌+◌, ◌<◌, List, [], ◌∷◌, length, slice_index_or, take, map, filter, count_by, ℤ, pos, neg_ℤ, ◌+ℤ◌, ◌-ℤ◌, ◌≤ℤ◌, int_le}
use Rattle.std.specs.{Prelude.{int_lt, if◌then◌else◌, ◌⊎◌, FitsSigned}, Int.{w64}, List.{AllAdjacentBelow}}
use Rattle.tz_base.specs.declared.error.Expected.{Expected, TheVariants.{LeapTimeAboveI64Min, UnixTimeOf64Bits}}
use Rattle.tz_info.specs.Lists.{last_else}
use Rattle.tz_base.specs.declared.leap_second.LeapSecond.{LeapSecond}

-- one second more or one less
abbrev pub IsOneStep : ℤ → ℤ → Type 0
IsOneStep a b = (b ≡ a +ℤ pos 1) ⊎ (b ≡ a -ℤ pos 1)

-- the entry may be the first
pub record IsFirstLeap (e : LeapSecond) : Type 0 where
  pub since_epoch : pos 0 ≤ℤ e.unix_leap_time
  pub step : IsOneStep (pos 0) e.correction

-- the entry b may follow the entry a: it comes 28 days later, less a second, or more
pub record IsNextLeap (a b : LeapSecond) : Type 0 where
  pub later : (a.unix_leap_time +ℤ pos 2_419_199) ≤ℤ b.unix_leap_time
  pub step : IsOneStep a.correction b.correction

-- the entries that a zone may have
pub record AreLeapSeconds (entries : List LeapSecond) : Type 0 where
  pub first : (d : LeapSecond) → 0 < length entries → IsFirstLeap (slice_index_or entries 0 d)
  pub next : AllAdjacentBelow IsNextLeap entries (length entries)

abbrev pub corrections : List LeapSecond → List ℤ
corrections entries = map (λ e. e.correction) entries

-- the Unix times from which on the entries apply, after an entry of that correction: each entry's time less the
-- correction before it
abbrev pub thresholds : ℤ → List LeapSecond → List ℤ
thresholds before [] = []
thresholds before (e ∷ es) = (e.unix_leap_time -ℤ before) ∷ thresholds e.correction es

-- how many entries are passed at the Unix time u
abbrev pub passed_count : List LeapSecond → ℤ → ℕ
passed_count entries u = count_by (λ t. int_le t u) (thresholds (pos 0) entries)

-- the correction in force at the Unix time u
abbrev pub correction_at : List LeapSecond → ℤ → ℤ
correction_at entries u = last_else (pos 0) (corrections (take (passed_count entries u) entries))

-- x is the leap time of the Unix time u, and u with the correction of each passed entry fits 64 bits
pub record IsLeapTime (entries : List LeapSecond) (u x : ℤ) : Type 0 where
  pub sum : x ≡ u +ℤ correction_at entries u
  pub fits : (k : ℕ) → k < passed_count entries u → FitsSigned w64 (u +ℤ slice_index_or (corrections entries) k (pos 0))

-- a second near enough that it has a leap time, whatever the entries
abbrev pub IsNear : ℤ → Type 0
IsNear u = (neg_ℤ (pos 10_000_000_000_000) ≤ℤ u) × (u ≤ℤ pos 10_000_000_000_000)

-- u with the correction of some passed entry does not fit 64 bits
pub record IsLeapTimeRefused (entries : List LeapSecond) (u : ℤ) : Type 0 where
  pub place : ℕ
  pub passed : place < passed_count entries u
  pub leaves : ¬ (FitsSigned w64 (u +ℤ slice_index_or (corrections entries) place (pos 0)))

-- the correction of the last entry before the leap time x
abbrev pub correction_before : List LeapSecond → ℤ → ℤ
correction_before entries x = last_else (pos 0) (corrections (filter (λ e. int_lt e.unix_leap_time x) entries))

-- the least number of 64 bits, which is no leap time that can be asked
abbrev pub least_time : ℤ
least_time = neg_ℤ (pos 9_223_372_036_854_775_808)

-- u is the Unix time of the leap time x
pub record IsUnixTime (entries : List LeapSecond) (x u : ℤ) : Type 0 where
  pub not_least : ¬ (x ≡ least_time)
  pub difference : u ≡ x -ℤ correction_before entries x
  pub fits : FitsSigned w64 u

-- the leap time x has no Unix time of 64 bits
abbrev pub IsUnixTimeRefused : List LeapSecond → ℤ → Type 0
IsUnixTimeRefused entries x = (x ≡ least_time) ⊎ (¬ (FitsSigned w64 (x -ℤ correction_before entries x)))

-- what is expected of a leap time that has none: another one than the least, or else a Unix time of 64 bits
abbrev pub expected_of_leap_time : ℤ → Expected
expected_of_leap_time x = if int_le x least_time then LeapTimeAboveI64Min else UnixTimeOf64Bits

-- the corrections are 1, 2, 3 and so on
abbrev pub AreCounted : List LeapSecond → Type 0
AreCounted entries = (k : ℕ) → k < length entries → slice_index_or (corrections entries) k (pos 0) ≡ pos (k + 1)
