-- Steps of the local clock: how many days and seconds come before the next one begins.
use Rattle.std.proofs.{Math.Nat.{div-add-mod', mod-lt, mul-mod_left, zero-mod}, lemmas.Bool.{cases_order}}
use Rattle.gregorian.proofs.ForCallers.{months_all, months_step}
use Rattle.naive_base.proofs.{Named.{number_below}, Words.{arith, by_lt_z, date_is, date_only, day_of_month, day_of_year, day_of_year_is, days_in_month}}
use Rattle.naive_base.proofs.Words.{days_in_year, floor_div, floor_mod, floors, inl, inr, ints, is_leap, lies_in, month_of, one_year, pos, refl, starts_rise}
use Rattle.naive_base.proofs.Words.{subst, sym, weekday_number, year_of, year_start, year_step, ℕ, ℤ, ◌%◌, ◌*◌, ◌*ℤ◌, ◌+ℤ◌, ◌+◌, ◌-ℤ◌, ◌-◌, ◌/◌, ◌<ℤ◌, ◌<◌, ◌≡◌}
use Rattle.naive_base.proofs.Words.{◌≤ℤ◌, ◌≤◌, ◌⊎◌, day_number, days_at_least, days_of_months, number_at}
use Rattle.naive_base.specs.declared.weekday.Weekday.{Weekday}
use Rattle.naive_plans.proofs.DayPlaces.{in_same_month, least_days, multiples_apart}
use Rattle.naive_plans.specs.{ClockSteps.{BeginsOnDay, BeginsStep, seconds_of_step}, PartsOfDay.{IsPartOfDay}, Steps.Members.{IsFirstAfter, IsLastUpTo}}
use Rattle.naive_plans.specs.{Steps.StepPlaces.{IsPlace}, declared.clock_step.ClockStep.{ClockStep, TheVariants.{Day, Month, Part, Week, Year}}}

-- ---- multiples of a number of seconds
-- of n seconds, up to the second a of the day or after it
module _ (n a : ℕ) where
  last_multiple : (k : ℕ) → 1 ≤ n → k % n ≡ 0 → k ≤ a → k ≤ a - a % n
  last_multiple k some none le = omega (arith, multiples_apart n (a / n) (k / n))

  pub next_multiple : (k : ℕ) → k % n ≡ 0 → a < k → a - a % n + n ≤ k
  next_multiple k none less = omega (arith, multiples_apart n (a / n) (k / n), div-add-mod' a n, div-add-mod' k n)

  whole : a - a % n ≡ a / n * n
  whole = omega (arith, ints)

  is_multiple : (a - a % n) % n ≡ 0
  is_multiple = rw whole (mul-mod_left (a / n) n)

  next_is_multiple : (a - a % n + n) % n ≡ 0
  next_is_multiple = grind (arith, ints, mul-mod_left, whole)

-- ---- places of days
-- steps that begin at midnight, or on each day
pub midnights_or_each_day : (step : ClockStep) → (seconds_of_step step ≡ 86_400) ⊎ ((d : ℤ) → BeginsOnDay step d)
midnights_or_each_day Day = inl refl
midnights_or_each_day (Week first) = inl refl
midnights_or_each_day Month = inl refl
midnights_or_each_day Year = inl refl
midnights_or_each_day (Part part) = inr (λ d. tt)

none_around : (on : ℤ → Type 0) (day : ℤ) (before after : ℕ) → ((d : ℤ) → on d) → IsPlace on day before after → (before ≡ 0) × (after ≡ 0)
none_around on day before after each h = (
  grind (arith, ints, h.none_between day (each day)),
  grind (arith, ints, h.none_between (day +ℤ pos 1) (each (day +ℤ pos 1))),
)

-- a step that begins at midnights only has no other seconds, and one that begins on each day no other days around
around : (step : ClockStep) (day : ℤ) (before after : ℕ) → IsPlace (BeginsOnDay step) day before after
    → (seconds_of_step step ≡ 86_400) ⊎ ((before ≡ 0) × (after ≡ 0))
around step day before after h = elim (midnights_or_each_day step) [
  | inl midnight ↦ inl midnight
  | inr each ↦ inr (none_around (BeginsOnDay step) day before after each h)
]

-- ---- the last second at which a step begins, and the next one
at_second : (step : ClockStep) (day : ℤ) (second : ℕ) (l : ℤ) → l ≡ day *ℤ pos 86_400 +ℤ pos second → second < 86_400 → BeginsOnDay step day
    → second % seconds_of_step step ≡ 0 → BeginsStep step l
at_second = grind (arith, ints)

-- a member of the day d, at its second k, up to second `at` of `day`
last_member : (day d : ℤ) (before k b n : ℕ) → (n ≡ 86_400) ⊎ (before ≡ 0) → (n ≡ 86_400 → k ≡ 0) → ((d ≡ day) → k ≤ b) → k < 86_400 → b < 86_400
    → d ≤ℤ (day -ℤ pos before) → (d *ℤ pos 86_400 +ℤ pos k) ≤ℤ ((day -ℤ pos before) *ℤ pos 86_400 +ℤ pos b)
last_member = grind (arith, ints)

next_member : (day d : ℤ) (after e k : ℕ) → (d ≡ day → (after ≡ 0) × (e ≤ k)) → day ≤ℤ d → (day <ℤ d → (day +ℤ pos after) <ℤ d) → e ≤ 86_400
    → ((day +ℤ pos after) *ℤ pos 86_400 +ℤ pos e) ≤ℤ (d *ℤ pos 86_400 +ℤ pos k)
next_member = grind (arith, ints)

-- the second s, which is the second `at` of `day`, in a step of days that begins `before` days earlier and ends after `after` more;
-- each of its days begins a step of n seconds
module _ (step : ClockStep) {s day : ℤ} {at before after n : ℕ} (is_day : day ≡ floor_div s 86_400) (is_at : at ≡ floor_mod s 86_400)
    (is_n : n ≡ seconds_of_step step) (part : IsPartOfDay n) (h : IsPlace (BeginsOnDay step) day before after) where
  last_begin : IsLastUpTo (BeginsStep step) s ((day -ℤ pos before) *ℤ pos 86_400 +ℤ pos (at - at % n))
  last_begin = grind (arith, ints, floors, around, at_second, is_multiple, last_member, last_multiple)

  next_begin : IsFirstAfter (BeginsStep step) s ((day +ℤ pos after) *ℤ pos 86_400 +ℤ pos (at - at % n + n))
  next_begin =
      let short : at < 86_400 = omega (arith, ints, floors) in let less = mod-lt at part.0 in let most = next_multiple n at 86_400 part.1 short in
      record {
        one = elim (around step day before after h) [
          | inl midnight ↦
              let day_long : n ≡ 86_400 = rw is_n midnight in let passed : at % n ≡ at = rw day_long (omega arith) in
              at_second step (day +ℤ pos after +ℤ pos 1) 0 _ (omega (arith, ints)) (omega arith) h.next (zero-mod (seconds_of_step step))
          | inr none ↦
              let here : BeginsOnDay step day = subst (λ (d : ℤ). BeginsOnDay step d) (omega (arith, ints)) h.first in
              let there : BeginsOnDay step (day +ℤ pos 1) = subst (λ (d : ℤ). BeginsOnDay step d) (omega (arith, ints)) h.next in
              elim (cases_order (at - at % n + n) 86_400) [
                | inl same ↦ grind (arith, ints, floors, at_second, zero-mod)
                | inr (inl within) ↦ at_second step day (at - at % n + n) _ (omega (arith, ints)) within here (rw is_n (next_is_multiple _ at))
                | inr (inr over) ↦ absurd (omega arith)
              ]
        ];
        after = omega (arith, ints, floors);
        least = λ m begins later.
            let d : ℤ = floor_div m 86_400 in let k : ℕ = floor_mod m 86_400 in
            let in_day : k < 86_400 = omega (arith, ints, floors) in let none : k % n ≡ 0 = rw is_n begins.at in
            let from : day ≤ℤ d = omega (arith, ints, floors) in
            let at_least = next_member day d after (at - at % n + n) k
            (λ same. let le = next_multiple n at k none (omega (arith, ints, floors)) in (
              elim (around step day before after h) [
                | inl midnight ↦ absurd (let day_long : n ≡ 86_400 = rw is_n midnight in omega arith)
                | inr both ↦ both.1
              ],
              le,
            )) from (grind (arith, ints, h.none_between d begins.on)) most in
            omega (arith, ints, floors);
      }

  -- the same of what the code computes
  pub last_is : {first l : ℤ} {begin : ℕ} → first ≡ day -ℤ pos before → begin ≡ at - at % n → l ≡ first *ℤ pos 86_400 +ℤ pos begin
      → IsLastUpTo (BeginsStep step) s l
  last_is is_first is_begin is = rw (is, is_first, is_begin) last_begin

  pub next_is : {last l : ℤ} {next : ℕ} → last ≡ day +ℤ pos after → next ≡ at - at % n + n → l ≡ last *ℤ pos 86_400 +ℤ pos next
      → IsFirstAfter (BeginsStep step) s l
  next_is is_last is_next is = rw (is, is_last, is_next) next_begin

-- ---- weeks, months and years
pub in_week : (first : Weekday) (day : ℤ) (before : ℕ) → before ≡ floor_mod (day +ℤ pos 4 -ℤ pos (weekday_number first)) 7
    → IsPlace (BeginsOnDay (Week first)) day before (6 - before)
in_week = grind (arith, ints, floors, number_below)

next_number : (y : ℤ) (m d : ℕ) (day : ℤ) → 1 ≤ m → 1 ≤ d → d ≤ days_in_month (is_leap y) m → day_number y m d ≡ day
    → day_number y (m + 1) 1 ≡ day +ℤ pos (days_in_month (is_leap y) m - d) +ℤ pos 1
unfolding day_number
next_number y m d day low first last is = let back : m + 1 - 1 ≡ m = omega arith in rw back (omega (arith, ints, months_step (is_leap y) m low))

first_of_next_year : (y : ℤ) (day : ℤ) → day_number y 13 1 ≡ day → day_number (y +ℤ pos 1) 1 1 ≡ day
unfolding day_number days_of_months
first_of_next_year y day is = omega (arith, ints, months_all y, year_step y)

next_month : (y : ℤ) (m : ℕ) (day : ℤ) → 1 ≤ m → m ≤ 12 → day_number y (m + 1) 1 ≡ day → day_of_month day ≡ 1
next_month y m day low high is = elim (cases_order m 12) [
  | inl december ↦ (date_only day (y +ℤ pos 1) 1 1 (omega arith, omega arith, omega arith, least_days (is_leap (y +ℤ pos 1)) 1)
      (first_of_next_year y day (rw december at is))).2
  | inr (inl less) ↦ (date_only day y (m + 1) 1 (omega arith, omega arith, omega arith, least_days (is_leap y) (m + 1)) is).2
  | inr (inr more) ↦ absurd (omega arith)
]

pub in_month : (day : ℤ) → IsPlace (BeginsOnDay Month) day (day_of_month day - 1) (days_in_month (is_leap (year_of day)) (month_of day) - day_of_month day)
in_month day =
    let y = year_of day in let m = month_of day in let d = day_of_month day in
    let (date, number) = date_is day in let (low, high, first, last) = date in
    record {
      first = (date_only (day -ℤ pos (d - 1)) y m 1 (low, high, omega arith, omega arith) (omega (arith, ints, number_at y m d first))).2;
      next = next_month y m (day +ℤ pos (days_in_month (is_leap y) m - d) +ℤ pos 1) low high (next_number y m d day low first last number);
      none_between = λ e on later. by_lt_z (day +ℤ pos (days_in_month (is_leap y) m - d)) e (λ more. more)
          (λ not. absurd (omega (arith, ints, in_same_month day e (omega (arith, ints)) not)));
    }

start_lies : (y : ℤ) → (day_of_year (year_start y) ≡ 0) × (year_of (year_start y) ≡ y)
start_lies y =
    let same = one_year (year_start y) y (year_of (year_start y)) (omega (arith, ints), omega (arith, ints, year_step y, days_at_least y))
    (lies_in (year_start y)) in
    let own = (day_of_year_is (year_start y)).0 in (omega (arith, ints, rw (sym same) at own), sym same)

pub in_year : (day : ℤ) → IsPlace (BeginsOnDay Year) day (day_of_year day) (days_in_year (year_of day) - 1 - day_of_year day)
in_year day =
    let y = year_of day in let own = day_of_year_is day in let step = year_step y in
    let begins : day -ℤ pos (day_of_year day) ≡ year_start y = omega (arith, ints) in
    let ends : day +ℤ pos (days_in_year y - 1 - day_of_year day) +ℤ pos 1 ≡ year_start (y +ℤ pos 1) = omega (arith, ints) in
    record {
      first = rw begins (start_lies y).0;
      next = rw ends (start_lies (y +ℤ pos 1)).0;
      none_between = λ d on later.
          let other = (day_of_year_is d).0 in let lies = lies_in day in
          grind (arith, ints, starts_rise (y +ℤ pos 1) (year_of d), starts_rise (year_of d) y);
    }

-- ---- the same of what the code computes
pub in_month_of : (day y : ℤ) (m d n : ℕ) → y ≡ year_of day → m ≡ month_of day → d ≡ day_of_month day → n ≡ days_in_month (is_leap y) m
    → IsPlace (BeginsOnDay Month) day (d - 1) (n - d)
in_month_of day y m d n is_year is_month is_day is = rw (is, is_year, is_month, is_day) (in_month day)

pub in_year_of : (day : ℤ) (before after : ℕ) → before ≡ day_of_year day → after ≡ days_in_year (year_of day) - 1 - day_of_year day
    → IsPlace (BeginsOnDay Year) day before after
in_year_of day before after is_before is_after = rw (is_before, is_after) (in_year day)
