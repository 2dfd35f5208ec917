-- The periods of rules.
use Rattle.std.proofs.{Math.Nat.{div-add-mod', mod-lt}, lemmas.Bool.{cases_order}}
use Rattle.gregorian.proofs.ForCallers.{date_lies, days_at_most, months_rise, months_step}
use Rattle.naive_base.proofs.Words.{arith, ints, floors, neg_ℤ, pos, ℕ, ℤ, ◌*◌, ◌*ℤ◌, ◌+ℤ◌, ◌+◌, ◌-ℤ◌, ◌-◌, ◌/◌, ◌<◌, ◌≡◌, ◌≤ℤ◌, ◌≤◌, ◌<ℤ◌, date_is, date_only}
use Rattle.naive_base.proofs.Words.{day_number, floor_mod, day_of_month, floor_div, is_leap, lies_in, month_of, starts_rise, year_of}
use Rattle.naive_base.proofs.Words.{year_start, refl, days_in_month, inl, inr, sym, by_lt_z, day_of_year_is}
use Rattle.naive_plans.proofs.ForCallers.{least_days, multiples_apart}
use Rattle.naive_rrule.specs.{RecurrenceRules.{month_number, period_of}, Steps.RuleSteps.{IsLastPeriod, least_period}, declared.rule.Frequency.{Frequency}}
use Rattle.naive_rrule.specs.declared.rule.Frequency.TheVariants.{Monthly, Yearly}

same_year : (y : ℤ) (m k d : ℕ) → m ≤ k → 1 ≤ d → day_number y m 1 ≤ℤ day_number y k d
unfolding day_number
same_year = grind (arith, ints, months_rise)

-- a day is in a year or a later one if and only if it isn't before the year
year_from : (y day : ℤ) → (y ≤ℤ year_of day → year_start y ≤ℤ day) × (year_of day <ℤ y → day <ℤ year_start y)
year_from y day = (
  λ le. omega (arith, ints, starts_rise y (year_of day) le, lies_in day),
  λ less. omega (arith, ints, starts_rise (year_of day +ℤ pos 1) y (omega (arith, ints)), lies_in day),
)

first_of_month : (y : ℤ) (m : ℕ) (day : ℤ) → 1 ≤ m → m ≤ 12 → (y *ℤ pos 12 +ℤ pos m -ℤ pos 1) ≤ℤ month_number day → day_number y m 1 ≤ℤ day
first_of_month y m day low high h =
    let own = date_is day in
    by_lt_z y (year_of day)
    (λ less. omega (arith, ints, date_lies y m 1 (low, high, omega arith, least_days (is_leap y) m), (year_from (y +ℤ pos 1) day).0 (omega (arith, ints))))
    (λ not. let same : year_of day ≡ y = omega (arith, ints) in
    rw (sym same) (rw own.1 at (same_year (year_of day) m (month_of day) (day_of_month day) (omega (arith, ints)) own.0.2)))

pub month_later : (l r least number : ℤ) → r ≡ day_number (floor_div least 12) (floor_mod least 12 + 1) 1 *ℤ pos 86_400 → least ≤ℤ number
    → number ≤ℤ month_number (floor_div l 86_400) → r ≤ℤ l
month_later l r least number is below h =
    let from = first_of_month (floor_div least 12) (floor_mod least 12 + 1) (floor_div l 86_400) (omega arith) (omega (arith, ints, floors))
    (omega (arith, ints, floors)) in omega (arith, ints, floors)

-- ---- and the seconds before them
year_high : (day : ℤ) → day ≤ℤ pos 4_000_000 → year_of day <ℤ pos 13_000
unfolding year_start
year_high day le = let start : year_start (pos 13_000) ≡ pos 4_028_625 = refl in grind (arith, ints, (year_from (pos 13_000) day).0)

-- a year begins with its first month
pub year_by_month : (y day : ℤ) → (y ≤ℤ year_of day → (y *ℤ pos 12) ≤ℤ month_number day) × (year_of day <ℤ y → month_number day <ℤ (y *ℤ pos 12))
year_by_month = grind (arith, ints, date_is)

-- ---- later seconds have later periods
year_rises : (a b : ℤ) → a ≤ℤ b → year_of a ≤ℤ year_of b
year_rises a b le = grind (arith, ints, (year_from (year_of a) b).1, lies_in a)

month_in_same : (y : ℤ) (m d k e : ℕ) → 1 ≤ m → d ≤ days_in_month (is_leap y) m → 1 ≤ e → m < k → day_number y m d <ℤ day_number y k e
unfolding day_number
month_in_same y m d k e low last first less =
    omega (arith, ints, months_step (is_leap y) m low, months_rise (is_leap y) m (k - 1) (omega arith), least_days (is_leap y) m)

month_rises : (a b : ℤ) → a ≤ℤ b → month_number a ≤ℤ month_number b
month_rises a b le =
    let year = year_rises a b le in let early = date_is a in let late = date_is b in
    by_lt_z (year_of a) (year_of b) (λ less. omega (arith, ints))
    (λ not. let same : year_of b ≡ year_of a = omega (arith, ints) in
    elim (cases_order (month_of a) (month_of b)) [
      | inl alike ↦ omega (arith, ints)
      | inr (inl less) ↦ omega (arith, ints)
      | inr (inr more) ↦
          let before = month_in_same (year_of a) (month_of b) (day_of_month b) (month_of a) (day_of_month a) late.0.0 (rw same at late.0.3) early.0.2 more in
          let number : day_number (year_of a) (month_of b) (day_of_month b) ≡ b = rw same at late.1 in absurd (omega (arith, ints))
    ])

pub period_rises : (f : Frequency) (first : ℕ) (a b : ℤ) → a ≤ℤ b → period_of f first a ≤ℤ period_of f first b
period_rises Yearly first a b le = grind (arith, ints, floors, year_rises)
period_rises Monthly first a b le = grind (arith, ints, floors, month_rises)
period_rises _ first a b le = omega (arith, ints, floors)

month_before : (y : ℤ) (m : ℕ) (day : ℤ) → 1 ≤ m → m ≤ 12 → month_number day <ℤ (y *ℤ pos 12 +ℤ pos m -ℤ pos 1) → day <ℤ day_number y m 1
month_before y m day low high h =
    let own = date_only (day_number y m 1) y m 1 (low, high, omega arith, least_days (is_leap y) m) refl in
    grind (arith, ints, month_rises (day_number y m 1) day)

pub month_earlier : (number most l r : ℤ) → r ≡ day_number (floor_div most 12) (floor_mod most 12 + 1) 1 *ℤ pos 86_400
    → ((k : ℤ) → k <ℤ number → k <ℤ pos 240_000 → k <ℤ most) → l <ℤ pos 345_600_086_400 → month_number (floor_div l 86_400) <ℤ number → l <ℤ r
month_earlier number most l r is above in_years h =
    let high = year_high (floor_div l 86_400) (omega (arith, ints, floors)) in let month = date_is (floor_div l 86_400) in
    let own = above (month_number (floor_div l 86_400)) h (omega (arith, ints)) in
    let before = month_before (floor_div most 12) (floor_mod most 12 + 1) (floor_div l 86_400) (omega arith) (omega (arith, ints, floors))
    (omega (arith, ints, floors)) in omega (arith, ints, floors)

-- ---- the periods that count
pub last_one : (n : ℕ) (first period last : ℤ) (passed : ℕ) → 1 ≤ n → period ≡ first +ℤ pos passed → last ≡ first +ℤ pos (passed / n * n)
    → IsLastPeriod n first period last
last_one n first period last passed some is is_last = record {
  counts = record { times = passed / n; is = is_last };
  not_after = omega (arith, ints, div-add-mod' passed n);
  greatest = λ p own le. omega (arith, ints, multiples_apart n (passed / n) own.times, div-add-mod' passed n, mod-lt passed some);
  next = λ p own later. omega (arith, ints, multiples_apart n (passed / n) own.times, div-add-mod' passed n);
}

-- ---- from the year 0 on
year_low : (day : ℤ) → neg_ℤ (pos 719_528) ≤ℤ day → pos 0 ≤ℤ year_of day
unfolding year_start
year_low day le = let start : year_start (pos 0) ≡ neg_ℤ (pos 719_528) = refl in grind (arith, ints, (year_from (pos 0) day).1)

pub period_low : (f : Frequency) (first : ℕ) (start : ℤ) → first < 7 → neg_ℤ (pos 62_167_219_200) ≤ℤ start → least_period f ≤ℤ period_of f first start
period_low Yearly first start week le = omega (arith, ints, year_low (floor_div start 86_400) (omega (arith, ints, floors)))
period_low Monthly first start week le =
    omega (arith, ints, year_low (floor_div start 86_400) (omega (arith, ints, floors)), date_is (floor_div start 86_400))
period_low _ first start week le = omega (arith, ints, floors)

-- ---- a period is no longer than a year
earlier_year : (a b : ℤ) → (a +ℤ pos 366) ≤ℤ b → year_of a <ℤ year_of b
earlier_year a b le = grind (arith, ints, (year_from (year_of b) a).0, day_of_year_is b, days_at_most (year_of b))

pub long_before : (f : Frequency) (first : ℕ) (l start : ℤ) → (l +ℤ pos 31_708_800) ≤ℤ start → period_of f first l <ℤ period_of f first start
long_before Yearly first l start le = grind (arith, ints, floors, earlier_year)
long_before Monthly first l start le =
    let year = earlier_year (floor_div l 86_400) (floor_div start 86_400) (omega (arith, ints, floors)) in
    omega (arith, ints, date_is (floor_div l 86_400), date_is (floor_div start 86_400))
long_before _ first l start le = omega (arith, ints, floors)
