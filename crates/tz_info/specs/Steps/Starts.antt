-- From which second on a transition has come, and which seconds have a leap time.
use Rattle.std.specs.Prelude.{ℕ, ℤ, pos, ◌<◌, ◌≤◌, ◌+ℤ◌, ◌≤ℤ◌, ◌<ℤ◌, List, length, slice_index_or}
use Rattle.tz_info.specs.{Leaps.{IsLeapTime, IsLeapTimeRefused, correction_at, least_time}, Zones.{Zone}}
use Rattle.tz_base.specs.declared.leap_second.LeapSecond.{LeapSecond}

-- the leap time of the second u, if it has one
abbrev pub leap_time_at : Zone → ℤ → ℤ
leap_time_at z u = u +ℤ correction_at z.leaps u

-- the first n entries come at or before the leap time x, and the others after it
pub record HaveCome (leaps : List LeapSecond) (x : ℤ) (n : ℕ) : Type 0 where
  pub within : n ≤ length leaps
  pub before : (k : ℕ) (d : LeapSecond) → k < n → (slice_index_or leaps k d).unix_leap_time ≤ℤ x
  pub after : (k : ℕ) (d : LeapSecond) → n ≤ k → k < length leaps → ¬ ((slice_index_or leaps k d).unix_leap_time ≤ℤ x)

-- the first n entries come before the leap time x, and the others at it or after it
pub record AreBefore (leaps : List LeapSecond) (x : ℤ) (n : ℕ) : Type 0 where
  pub within : n ≤ length leaps
  pub before : (k : ℕ) (d : LeapSecond) → k < n → (slice_index_or leaps k d).unix_leap_time <ℤ x
  pub from : (d : LeapSecond) → n < length leaps → x ≤ℤ (slice_index_or leaps n d).unix_leap_time

-- each second of 64 bits up to that one has a leap time, and no later one has
pub record IsLastWithLeapTime (leaps : List LeapSecond) (last : ℤ) : Type 0 where
  pub has : (u : ℤ) → least_time ≤ℤ u → u ≤ℤ last → IsLeapTime leaps u (u +ℤ correction_at leaps u)
  pub refused : (u : ℤ) → last <ℤ u → u ≤ℤ pos 9_223_372_036_854_775_807 → IsLeapTimeRefused leaps u
