-- Which rules RFC 5545 allows, by its section 3.3.10, with which starts and ends.
use Rattle.std.specs.Prelude.{◌≡◌, ◌≢◌, ◌⊎◌, ⊤, ℕ, zero, suc, ◌≤◌, ℤ, pos, neg_ℤ, ◌≤ℤ◌, ◌<ℤ◌, List, All}
use Rattle.naive_rrule.specs.{RecurrenceRules.{IsAbsent}, declared.recurrence.{RecurrenceEnd.{RecurrenceEnd}, RecurrenceError.{RecurrenceError}}}
use Rattle.naive_rrule.specs.declared.rule.{Frequency.TheVariants.{Yearly, Monthly, Weekly, Daily}, NthWeekday.{NthWeekday}, RecurrenceRule.{RecurrenceRule}}
use Rattle.naive_rrule.specs.declared.recurrence.RecurrenceEnd.TheVariants as ends
use Rattle.naive_rrule.specs.declared.recurrence.RecurrenceError.TheVariants as errors

-- a start in the years 0 to 9999, which the RFC's four digits can write
abbrev pub IsInYears : ℤ → Type 0
IsInYears start = (neg_ℤ (pos 62_167_219_200) ≤ℤ start) × (start <ℤ pos 253_402_300_800)

-- COUNT is positive
abbrev pub AllowsEnd : RecurrenceEnd → Type 0
AllowsEnd ends.Never = ⊤
AllowsEnd (ends.Until until) = ⊤
AllowsEnd (ends.Count zero) = ⊥
AllowsEnd (ends.Count (suc n)) = ⊤

-- numbers from one to another
abbrev pub AreWithin : List ℕ → ℕ → ℕ → Type 0
AreWithin part least most = All (λ n. (least ≤ n) × (n ≤ most)) part

-- places up to a number, counted from the front or from the end
abbrev pub ArePlaces : List ℤ → ℕ → Type 0
ArePlaces part most = All (λ n. (n ≢ pos 0) × (neg_ℤ (pos most) ≤ℤ n) × (n ≤ℤ pos most)) part

abbrev pub AreWeekdays : List NthWeekday → Type 0
AreWeekdays part = All (λ e. (neg_ℤ (pos 53) ≤ℤ e.nth) × (e.nth ≤ℤ pos 53)) part

-- the numbers of each part are in its range
pub record HasAllowedNumbers (r : RecurrenceRule) : Type 0 where
  pub month : AreWithin r.by_month.now 1 12
  pub week_number : ArePlaces r.by_week_number.now 53
  pub year_day : ArePlaces r.by_year_day.now 366
  pub month_day : ArePlaces r.by_month_day.now 31
  pub day : AreWeekdays r.by_weekday.now
  pub hour : AreWithin r.by_hour.now 0 23
  pub minute : AreWithin r.by_minute.now 0 59
  pub at_second : AreWithin r.by_second.now 0 60
  pub position : ArePlaces r.by_set_position.now 366

-- BYWEEKNO is for years
abbrev pub AllowsWeekNumbers : RecurrenceRule → Type 0
AllowsWeekNumbers r = IsAbsent r.by_week_number.now ⊎ (r.frequency ≡ Yearly)

-- BYYEARDAY isn't for months, weeks and days
abbrev pub AllowsYearDays : RecurrenceRule → Type 0
AllowsYearDays r = IsAbsent r.by_year_day.now ⊎ ((r.frequency ≢ Monthly) × (r.frequency ≢ Weekly) × (r.frequency ≢ Daily))

-- BYMONTHDAY isn't for weeks
abbrev pub AllowsMonthDays : RecurrenceRule → Type 0
AllowsMonthDays r = IsAbsent r.by_month_day.now ⊎ (r.frequency ≢ Weekly)

-- BYDAY's numbers are for months, and for years without BYWEEKNO
abbrev pub AllowsNth : RecurrenceRule → Type 0
AllowsNth r = All (λ e. e.nth ≡ pos 0) r.by_weekday.now ⊎ (r.frequency ≡ Monthly) ⊎ ((r.frequency ≡ Yearly) × IsAbsent r.by_week_number.now)

-- no BY part but BYSETPOS
pub record HasNoPart (r : RecurrenceRule) : Type 0 where
  pub month : IsAbsent r.by_month.now
  pub week_number : IsAbsent r.by_week_number.now
  pub year_day : IsAbsent r.by_year_day.now
  pub month_day : IsAbsent r.by_month_day.now
  pub day : IsAbsent r.by_weekday.now
  pub hour : IsAbsent r.by_hour.now
  pub minute : IsAbsent r.by_minute.now
  pub at_second : IsAbsent r.by_second.now

-- BYSETPOS needs another BY part
abbrev pub AllowsPositions : RecurrenceRule → Type 0
AllowsPositions r = IsAbsent r.by_set_position.now ⊎ (HasNoPart r → ⊥)

-- a rule, a start and an end that the RFC allows
pub record IsAllowed (r : RecurrenceRule) (start : ℤ) (end : RecurrenceEnd) : Type 0 where
  pub in_years : IsInYears start
  pub interval : r.interval ≢ 0
  pub count : AllowsEnd end
  pub numbers : HasAllowedNumbers r
  pub week_number : AllowsWeekNumbers r
  pub year_day : AllowsYearDays r
  pub month_day : AllowsMonthDays r
  pub nth : AllowsNth r
  pub position : AllowsPositions r

-- what is wrong with them
abbrev pub IsFault : RecurrenceRule → ℤ → RecurrenceEnd → RecurrenceError → Type 0
IsFault r start end errors.Start = IsInYears start → ⊥
IsFault r start end errors.Interval = r.interval ≡ 0
IsFault r start end errors.Count = AllowsEnd end → ⊥
IsFault r start end errors.Number = HasAllowedNumbers r → ⊥
IsFault r start end errors.WeekNumber = AllowsWeekNumbers r → ⊥
IsFault r start end errors.YearDay = AllowsYearDays r → ⊥
IsFault r start end errors.MonthDay = AllowsMonthDays r → ⊥
IsFault r start end errors.NthWeekday = AllowsNth r → ⊥
IsFault r start end errors.SetPosition = AllowsPositions r → ⊥
