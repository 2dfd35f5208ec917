-- The walk over the times that a rule's parts let through.
use Rattle.naive_base.proofs.Words.{MatchOption, None, Option, Some, arith, by_lt_z, floor_div, floor_mod, floors, ints, neg_ℤ, pos, refl, sym, to_z-of_z, ℕ, ℤ}
use Rattle.naive_base.proofs.Words.{◌*◌, ◌*ℤ◌, ◌+ℤ◌, ◌+◌, ◌-ℤ◌, ◌-◌, ◌/◌, ◌<ℤ◌, ◌<◌, ◌≡◌, ◌≤ℤ◌, ◌≤◌, day_of_month, days_in_month, is_leap, month_of, year_of}
use Rattle.naive_base.proofs.Words.{weekday_number}
use Rattle.naive_plans.proofs.ForCallers.{IsLeft, least_found, on_day, in_same_month}
use Rattle.naive_rrule.proofs.Periods.{period_rises}
use Rattle.naive_plans.specs.DayPlans.{HasNoSecondFrom, IsFirstSecondFrom, IsPlannedOnItsDay}
use Rattle.naive_rrule.specs.RecurrenceRules.{HasHour, HasMinute, HasMonth, HasSecond}
use Rattle.naive_rrule.specs.{RecurrenceRules.{IsOccasionOn, IsOnDate}, Steps.OccasionSteps.{HasNoneBetween, IsCounted, IsEndOfLast, IsFirstBetween, IsSkipped}}
use Rattle.naive_rrule.specs.Steps.{OccasionSteps.{IsStartOfNext, IsTimeOn}, RuleSteps.{IsLastPeriod, IsPeriod, own_period}}
use Rattle.naive_rrule.specs.declared.rule.RecurrenceRule.{RecurrenceRule}

-- ---- periods that count
pub first_not_later : (r : RecurrenceRule) (start second first period : ℤ) → first ≡ own_period r start → period ≡ own_period r second → start ≤ℤ second
    → first ≤ℤ period
first_not_later = grind (arith, ints, period_rises)

-- the rule's first period, the period of a second, and the last one up to that which counts
module _ (r : RecurrenceRule) (start second : ℤ) {first period last : ℤ} (is_first : first ≡ own_period r start) (is_period : period ≡ own_period r second)
    (own : IsLastPeriod r.interval first period last) where
  pub counts_here : last ≡ period → IsCounted r start second
  counts_here = grind (arith, ints)

  -- if the last period that counts is an earlier one, its own doesn't
  not_counted : (last ≡ period → ⊥) → IsCounted r start second → ⊥
  not_counted = grind (arith, ints)

  pub starts_later : {next s : ℤ} → (last ≡ period → ⊥) → next ≡ last +ℤ pos r.interval → ((l : ℤ) → next ≤ℤ own_period r l → s ≤ℤ l)
      → (neg_ℤ (pos 1_000_000_000_000_000_000) ≤ℤ s) × (s ≤ℤ pos 1_000_000_000_000_000_000) → IsStartOfNext r start second s
  starts_later other is_next later bound = record {
    none = λ l counted le.
        let from : period ≤ℤ own_period r l = rw is_period (period_rises r.frequency (weekday_number r.week_start) second l le) in
        let here : period ≡ own_period r l → ⊥ = λ same. not_counted other (record { times = counted.times; is = rw (sym is_period) (rw same counted.is) }) in
        later l (rw is_next (own.next (own_period r l) (rw is_first counted) (grind (arith, ints, from, here))));
    not_here = not_counted other;
    bound = bound;
  }

  pub ends_earlier : {next end : ℤ} → (last ≡ period → ⊥) → next ≡ last +ℤ pos 1 → second <ℤ pos 345_600_086_400
      → ((l : ℤ) → l <ℤ pos 345_600_086_400 → own_period r l <ℤ next → l <ℤ end)
      → ((l : ℤ) → next ≤ℤ own_period r l → end ≤ℤ l) → start <ℤ pos 253_402_300_800 → IsEndOfLast r start second end
  ends_earlier other is_next in_years earlier later start_in_years = record {
    none = λ l counted le.
        let rise : own_period r l ≤ℤ period = rw is_period (period_rises r.frequency (weekday_number r.week_start) l second le) in
        let most = own.greatest (own_period r l) (rw is_first counted) rise in earlier l (omega (arith, ints)) (omega (arith, ints));
    not_here = not_counted other;
    bound = (
      omega (arith, ints, earlier start (omega (arith, ints)) (omega (arith, ints))),
      by_lt_z last period (λ less. omega (arith, ints, later second (omega (arith, ints)))) (λ not. absurd (other (omega (arith, ints)))),
    );
  }

pub last_bounds : (n : ℕ) (first period last : ℤ) → IsLastPeriod n first period last → IsPeriod first → IsPeriod period → IsPeriod last
last_bounds = omega (arith, ints)

pub later_bounds : (n by : ℕ) (least first period last next : ℤ) → IsLastPeriod n first period last → least ≤ℤ first → IsPeriod period
    → next ≡ last +ℤ pos by → by < 4_294_967_296 → (least ≤ℤ next) × (next ≤ℤ pos 400_000_000_000)
later_bounds = omega (arith, ints)

-- ---- within a day
-- the rule r with that start, from a second of `day` on
module _ (r : RecurrenceRule) (start day : ℤ) (second : ℕ) where
  pub hour_skipped : second < 86_400 → (HasHour r (floor_mod start 86_400) second → ⊥) → IsSkipped (IsTimeOn r start day) second ((second / 3600 + 1) * 3600)
  hour_skipped = grind (arith, ints)

  pub minute_skipped : second < 86_400 → (HasMinute r (floor_mod start 86_400) second → ⊥) → IsSkipped (IsTimeOn r start day) second ((second / 60 + 1) * 60)
  minute_skipped = grind (arith, ints)

  pub second_skipped : second < 86_400 → (HasSecond r (floor_mod start 86_400) second → ⊥) → IsSkipped (IsTimeOn r start day) second (second + 1)
  second_skipped = grind (arith, ints)

  pub period_skipped : {l s : ℤ} {next : ℕ} → l ≡ day *ℤ pos 86_400 +ℤ pos second → IsStartOfNext r start l s → (second < next) × (next ≤ 86_400)
      → ((k : ℕ) → k < 86_400 → second < k → s ≤ℤ (day *ℤ pos 86_400 +ℤ pos k) → next ≤ k) → IsSkipped (IsTimeOn r start day) second next
  period_skipped is own later from = grind (arith, ints)

-- ---- days
pub time_of : {r : RecurrenceRule} {start day : ℤ} {second : ℕ} → IsOccasionOn r start day second → IsTimeOn r start day second
time_of = grind (arith, ints)

pub on_date : {r : RecurrenceRule} {start day : ℤ} {second : ℕ} → IsOnDate r (floor_div start 86_400) day → IsTimeOn r start day second
    → IsOccasionOn r start day second
on_date = grind (arith, ints)

pub with_date : (r : RecurrenceRule) (start day : ℤ) (from : ℕ) (found : Option ℕ) → IsOnDate r (floor_div start 86_400) day
    → MatchOption found (HasNoSecondFrom (IsTimeOn r start day) from) (λ s. IsFirstSecondFrom (IsTimeOn r start day) from s)
    → MatchOption found (HasNoSecondFrom (IsOccasionOn r start day) from) (λ s. IsFirstSecondFrom (IsOccasionOn r start day) from s)
with_date r start day from None date none = grind (arith, ints, floors, time_of)
with_date r start day from (Some s) date first = search (arith, ints, floors, on_date, time_of)

pub after_month : (r : RecurrenceRule) (start day d result : ℤ) (m f n dom : ℕ) (year : ℤ) → year ≡ year_of day → m ≡ month_of day → dom ≡ day_of_month day
    → f ≡ month_of start
    → n ≡ days_in_month (is_leap year) m → result ≡ day +ℤ pos (n - dom) +ℤ pos 1 → (HasMonth r f m → ⊥) → IsOnDate r start d → day <ℤ d → result ≤ℤ d
after_month r start day d result m f n dom year is_year is_month is_day is_first days is none on later =
    let lengths : n - dom ≡ days_in_month (is_leap (year_of day)) (month_of day) - day_of_month day = rw (days, is_year, is_month, is_day) refl in
    by_lt_z (day +ℤ pos (n - dom)) d (λ more. omega (arith, ints))
    (λ not. absurd (none (rw (is_month, is_first) (rw (in_same_month day d (omega (arith, ints)) (omega (arith, ints))).0 at on.month))))

-- the seconds that `on` lists for each day
module _ (on : ℤ → ℕ → Type 0) where
  -- a later day with none before it
  pub left_later : {before day next : ℤ} → IsLeft (IsPlannedOnItsDay on) before (day +ℤ pos 1) 0 → day <ℤ next
      → ((d : ℤ) (second : ℕ) → on d second → second < 86_400 → day <ℤ d → next ≤ℤ d) → IsLeft (IsPlannedOnItsDay on) before next 0
  left_later = grind (arith, ints)

  pub first_found : (from end : ℤ) {day l : ℤ} {second s : ℕ} (found : Option ℤ) → IsLeft (IsPlannedOnItsDay on) (from -ℤ pos 1) day second
      → IsFirstSecondFrom (on day) second s
      → l ≡ day *ℤ pos 86_400 +ℤ pos s → MatchOption found (end ≤ℤ l) (λ f. (f ≡ l) × (f <ℤ end))
      → MatchOption found (HasNoneBetween (IsPlannedOnItsDay on) from end) (λ f. IsFirstBetween (IsPlannedOnItsDay on) from end f)
  first_found from end None h first is over = grind (arith, ints, floors, least_found)
  first_found from end {day = day} {s = s} (Some f) h first is here = grind (arith, ints, least_found, on_day)

pub none_between : (set : ℤ → Type 0) (from end day : ℤ) (second : ℕ) → IsLeft set (from -ℤ pos 1) day second → (end ≤ℤ (day *ℤ pos 86_400))
    → HasNoneBetween set from end
none_between = grind (arith, ints)

pub left_at_start : (set : ℤ → Type 0) (from day : ℤ) (second : ℕ) → day ≡ floor_div from 86_400 → second ≡ floor_mod from 86_400
    → IsLeft set (from -ℤ pos 1) day second
left_at_start = omega (arith, ints, floors)

pub day_from : (start day d : ℤ) (second : ℕ) → day ≡ floor_div start 86_400 → second < 86_400 → start ≤ℤ (d *ℤ pos 86_400 +ℤ pos second) → day ≤ℤ d
day_from = omega (arith, ints, floors)

pub days_between : (next d : ℤ) (second : ℕ) → next ≤ℤ d → (next *ℤ pos 86_400) ≤ℤ (d *ℤ pos 86_400 +ℤ pos second)
days_between next d second le = omega (arith, ints)

pub ruleset periods = (to_z-of_z, first_not_later, counts_here, last_bounds, later_bounds)
