-- The walk back over the times that a rule's parts let through.
use Rattle.naive_base.proofs.Words.{MatchOption, None, Option, Some, arith, by_lt_z, date_is, floor_div, floor_mod, floors, ints, pos, ℕ, ℤ, ◌*◌, ◌*ℤ◌, ◌+ℤ◌}
use Rattle.naive_base.proofs.Words.{◌+◌, ◌-ℤ◌, ◌-◌, ◌/◌, ◌<ℤ◌, ◌<◌, ◌≡◌, ◌≤ℤ◌, ◌≤◌, day_of_month, is_leap, month_of, year_of, month_bounds, weekday_number}
use Rattle.naive_plans.proofs.ForCallers.{IsLeftBefore, in_same_month}
use Rattle.naive_rrule.proofs.{OccasionWalk.{on_date, time_of}, Periods.{long_before, period_rises}}
use Rattle.naive_plans.specs.{DayPlans.{HasNoSecondUntil, IsLastSecondUntil, IsPlannedOnItsDay}, Plans.{HasNoneUntil}}
use Rattle.naive_rrule.specs.RecurrenceRules.{HasHour, HasMinute}
use Rattle.naive_rrule.specs.{RecurrenceRules.{HasMonth, IsOccasion, IsOccasionOn, IsOnDate}, Steps.OccasionSteps.{IsEndOfLast, IsSkippedBack, IsTimeOn}}
use Rattle.naive_rrule.specs.{Steps.RuleSteps.{own_period}, declared.rule.RecurrenceRule.{RecurrenceRule}}

-- ---- seconds of a day
-- the rule r with that start, up to a second of `day`
module _ (r : RecurrenceRule) (start day : ℤ) (second : ℕ) where
  pub hour_back : (HasHour r (floor_mod start 86_400) second → ⊥) → IsSkippedBack (IsTimeOn r start day) second (second / 3600 * 3600)
  hour_back = grind (arith, ints)

  pub minute_back : (HasMinute r (floor_mod start 86_400) second → ⊥) → IsSkippedBack (IsTimeOn r start day) second (second / 60 * 60)
  minute_back = grind (arith, ints)

  pub period_back : {l e : ℤ} {end : ℕ} → l ≡ day *ℤ pos 86_400 +ℤ pos second → IsEndOfLast r start l e → end ≤ second
      → ((k : ℕ) → k < second → (day *ℤ pos 86_400 +ℤ pos k) <ℤ e → k < end) → IsSkippedBack (IsTimeOn r start day) second end
  period_back = grind (arith, ints)

-- none comes from a second of the day on and up to another one
abbrev pub IsPassedBack : (ℕ → Type 0) → ℕ → ℕ → Type 0
IsPassedBack on until left = (left ≤ until + 1) × ((k : ℕ) → k < 86_400 → on k → k ≤ until → k < left)

-- the seconds of a day that `on` lists
module _ (on : ℕ → Type 0) where
  pub one_back : (second : ℕ) → (on second → ⊥) → IsSkippedBack on second second
  one_back = grind (arith, ints)

  pub more_back : (until left end : ℕ) → IsPassedBack on until left → 0 < left → IsSkippedBack on (left - 1) end → IsPassedBack on until end
  more_back = grind (arith, ints)

  pub found_back : (until left : ℕ) → until < 86_400 → IsPassedBack on until left → 0 < left → on (left - 1) → IsLastSecondUntil on until (left - 1)
  found_back = grind (arith, ints)

-- ---- days
pub with_date_back : (r : RecurrenceRule) (start day : ℤ) (until : ℕ) (found : Option ℕ) → IsOnDate r (floor_div start 86_400) day
    → MatchOption found (HasNoSecondUntil (IsTimeOn r start day) until) (λ s. IsLastSecondUntil (IsTimeOn r start day) until s)
    → MatchOption found (HasNoSecondUntil (IsOccasionOn r start day) until) (λ s. IsLastSecondUntil (IsOccasionOn r start day) until s)
with_date_back r start day until None date none = grind (arith, ints, floors, time_of)
with_date_back r start day until (Some s) date last = search (arith, ints, floors, on_date, time_of)

pub before_month : (r : RecurrenceRule) (start day d result : ℤ) (m f dom : ℕ) → m ≡ month_of day → dom ≡ day_of_month day → f ≡ month_of start
    → result ≡ day -ℤ pos dom → (HasMonth r f m → ⊥) → IsOnDate r start d → d <ℤ day → d ≤ℤ result
before_month r start day d result m f dom is_month is_day is_first is none on less = by_lt_z result d
    (λ more. absurd (none (rw (is_month, is_first) (rw (in_same_month day d (omega (arith, ints)) (omega (arith, ints))).0 at on.month)))) (λ not. not)

pub in_month : (day : ℤ) (dom : ℕ) → dom ≡ day_of_month day → dom ≤ 31
in_month day dom is = omega (arith, date_is day, month_bounds (is_leap (year_of day)) (month_of day))

-- an earlier day with none after it
pub left_earlier : (on : ℤ → ℕ → Type 0) (until day last : ℤ) → IsLeftBefore (IsPlannedOnItsDay on) until (day -ℤ pos 1) 86_399 → last <ℤ day
    → ((d : ℤ) (second : ℕ) → on d second → second < 86_400 → d <ℤ day → d ≤ℤ last) → IsLeftBefore (IsPlannedOnItsDay on) until last 86_399
left_earlier = grind (arith, ints)

-- no occasion comes 367 days before the start
pub after_all : (r : RecurrenceRule) (start l : ℤ) → IsOccasion r start l → (start -ℤ pos 31_708_800) <ℤ l
after_all r start l one = by_lt_z (start -ℤ pos 31_708_800) l (λ less. less)
    (λ not. let early = long_before r.frequency (weekday_number r.week_start) l start (omega (arith, ints)) in
    let same : floor_div l 86_400 *ℤ pos 86_400 +ℤ pos (floor_mod l 86_400) ≡ l = omega (arith, ints, floors) in
    let counts = (rw same at one.counts).is in absurd (omega (arith, ints)))

pub none_until : (r : RecurrenceRule) (start until day : ℤ) (to : ℕ) → IsLeftBefore (IsOccasion r start) until day to
    → ((day *ℤ pos 86_400 +ℤ pos 86_400) ≤ℤ (start -ℤ pos 31_708_800)) → HasNoneUntil (IsOccasion r start) until
none_until r start until day to h over m wide one come =
    omega (arith, ints, after_all r start m one, h.left m one come)

pub all_until : (set : ℤ → Type 0) (until day : ℤ) (second : ℕ) → day ≡ floor_div until 86_400 → second ≡ floor_mod until 86_400
    → IsLeftBefore set until day second
all_until = omega (arith, ints, floors)

-- ---- periods that count
pub none_counted : (r : RecurrenceRule) (start second first period end : ℤ) → first ≡ own_period r start → period ≡ own_period r second
    → (first ≤ℤ period → ⊥) → start <ℤ pos 253_402_300_800 → end ≡ start -ℤ pos 31_708_800 → IsEndOfLast r start second end
none_counted r start second first period end is_first is_period early in_years is_end = record {
  none = λ l counted le. absurd (early (omega (arith, ints, period_rises r.frequency (weekday_number r.week_start) l second le)));
  not_here = λ counted. early (omega (arith, ints));
  bound = omega (arith, ints);
}

-- a day of a second that counts, up to one that none counts after
pub day_to : (end day d : ℤ) (second : ℕ) → day ≡ floor_div (end -ℤ pos 1) 86_400 → second < 86_400 → (d *ℤ pos 86_400 +ℤ pos second) <ℤ end → d ≤ℤ day
day_to = omega (arith, ints, floors)

pub days_up_to : (last d : ℤ) (second : ℕ) → d ≤ℤ last → second < 86_400 → (d *ℤ pos 86_400 +ℤ pos second) ≤ℤ (last *ℤ pos 86_400 +ℤ pos 86_399)
days_up_to last d second le short = omega (arith, ints)

pub ruleset seconds_back = (more_back, found_back)
