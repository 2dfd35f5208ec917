-- The local times of a recurrence, by RFC 5545.
use Rattle.std.specs.Prelude.{◌≡◌, ◌⊎◌, ◌↔◌, ⊤, ℕ, zero, suc, ◌+◌, ◌<◌, ℤ, pos, neg_ℤ, ◌≤ℤ◌, ◌<ℤ◌, Contains}
use Rattle.naive_base.specs.{NaiveDateTime.{reading}, Weekday.{weekday_number}}
use Rattle.naive_rrule.specs.{RecurrenceRules.{IsAbsent, IsOccasion, period_of}, declared.rule.RecurrenceRule.{RecurrenceRule}}
use Rattle.naive_rrule.specs.declared.recurrence.RecurrenceEnd.{RecurrenceEnd, TheVariants.{Never, Count, Until}}

-- l is in the set, and n of its members come before it
abbrev pub HasBefore : (ℤ → Type 0) → ℕ → ℤ → Type 0
HasBefore set zero l = set l × ((m : ℤ) → set m → l ≤ℤ m)
HasBefore set (suc n) l = (k : ℤ) × HasBefore set n k × set l × (k <ℤ l) × ((m : ℤ) → set m → k <ℤ m → l ≤ℤ m)

-- l is in the set, and n of its members come after it
abbrev pub HasAfter : (ℤ → Type 0) → ℕ → ℤ → Type 0
HasAfter set zero l = set l × ((m : ℤ) → set m → m ≤ℤ l)
HasAfter set (suc n) l = (k : ℤ) × HasAfter set n k × set l × (l <ℤ k) × ((m : ℤ) → set m → m <ℤ k → m ≤ℤ l)

-- l is the nth member of the set: the first one is 1, the last one -1
abbrev pub IsNth : (ℤ → Type 0) → ℤ → ℤ → Type 0
IsNth set n l = ((before : ℕ) × (n ≡ pos (before + 1)) × HasBefore set before l) ⊎ ((after : ℕ) × (n ≡ neg_ℤ (pos (after + 1))) × HasAfter set after l)

-- what the rule's other parts let through in one of its periods, also before its start
pub record IsInPeriod (r : RecurrenceRule) (start period l : ℤ) : Type 0 where
  pub occasion : IsOccasion r start l
  pub same : period_of r.frequency (weekday_number r.week_start) l ≡ period

-- l is an nth of its period that BYSETPOS lists
pub record IsListedNth (r : RecurrenceRule) (start l : ℤ) : Type 0 where
  pub position : ℤ
  pub listed : Contains r.by_set_position.now position
  pub nth : IsNth (IsInPeriod r start (period_of r.frequency (weekday_number r.week_start) l)) position l

-- BYSETPOS
abbrev pub IsAtPosition : RecurrenceRule → ℤ → ℤ → Type 0
IsAtPosition r start l = IsAbsent r.by_set_position.now ⊎ IsListedNth r start l

-- the rule has l, from its start on and up to the year 9999
pub record IsRuleTime (r : RecurrenceRule) (start l : ℤ) : Type 0 where
  pub occasion : IsOccasion r start l
  pub position : IsAtPosition r start l
  pub from_start : start ≤ℤ l
  pub in_years : l <ℤ pos 253_402_300_800

-- COUNT: fewer of the rule's times than that come before it
abbrev pub IsWithinCount : RecurrenceRule → ℤ → ℕ → ℤ → Type 0
IsWithinCount r start count l = (n : ℕ) × (n < count) × HasBefore (IsRuleTime r start) n l

-- COUNT and UNTIL
abbrev pub IsWithinEnd : RecurrenceRule → ℤ → RecurrenceEnd → ℤ → Type 0
IsWithinEnd r start Never l = ⊤
IsWithinEnd r start (Until last) l = l ≤ℤ (reading last).s
IsWithinEnd r start (Count count) l = IsWithinCount r start count l

-- the local times of a recurrence
pub record IsRecurrenceTime (r : RecurrenceRule) (start : ℤ) (end : RecurrenceEnd) (l : ℤ) : Type 0 where
  pub time : IsRuleTime r start l
  pub within : IsWithinEnd r start end l

-- what the rule has from a start on and up to a second
abbrev pub IsPlannedUpTo : RecurrenceRule → ℤ → ℤ → ℤ → Type 0
IsPlannedUpTo r start last l = IsRuleTime r start l × (l ≤ℤ last)

-- the local times of the rule `own` from `first` up to `last` are those of the recurrence
abbrev pub HasTimesOf : RecurrenceRule → ℤ → ℤ → RecurrenceRule → ℤ → RecurrenceEnd → Type 0
HasTimesOf own first last r start end = (l : ℤ) → IsPlannedUpTo own first last l ↔ IsRecurrenceTime r start end l
