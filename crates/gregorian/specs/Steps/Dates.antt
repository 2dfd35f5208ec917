-- The date of a day, found by taking months away from its year.
use Rattle.std.proofs.Common.{◌≡◌, ℕ, zero, suc, ◌+◌, ◌-◌, ◌<◌, ◌≤◌, inl, inr, Bool, true, false, nat_lt, if◌then◌else◌, arith, refl, ℤ, pos, ◌+ℤ◌, ◌-ℤ◌, ◌≤ℤ◌}
use Rattle.std.proofs.{Common.{◌<ℤ◌, unsigned_abs}, lemmas.Bool.{cases_lt, Decides.{nat_tests}}}
use Rattle.gregorian.specs.{Year.{is_leap, days_in_year, year_start}, Month.{days_in_month, days_of_months}, Date.{day_number, HasDate}, Steps.Floor.{floors}}
use Rattle.gregorian.specs.Steps.Years.{year_step, gap_of, some_year}

-- each month has its days, and all twelve together those of the year
pub months_step : (b : Bool) (m : ℕ) → 1 ≤ m → days_of_months b m ≡ days_of_months b (m - 1) + days_in_month b m
unfolding days_of_months
months_step b zero h = absurd (omega arith)
months_step b (suc m) h = let back : suc m - 1 ≡ m = omega arith in rw back

all_days : (b : Bool) → days_of_months b 12 ≡ (if b then 366 else 365)
unfolding days_of_months
all_days true = refl
all_days false = refl

pub months_all : (y : ℤ) → days_of_months (is_leap y) 12 ≡ days_in_year y
months_all y = all_days (is_leap y)

-- the month and the day of the month that come k days after the first of month m, where n more months follow
unfoldable pub place_from : ℕ → Bool → ℕ → ℕ → ℕ × ℕ
place_from zero leap m k = (m, k + 1)
place_from (suc n) leap m k =
    if nat_lt k (days_in_month leap m) then (m, k + 1) else place_from n leap (m + 1) (k - days_in_month leap m)

-- the month and the day of the place k of a year
pub record IsPlace (b : Bool) (k : ℕ) (p : ℕ × ℕ) : Type 0 where
  pub month : (1 ≤ p.0) × (p.0 ≤ 12)
  pub day : (1 ≤ p.1) × (p.1 ≤ days_in_month b p.0)
  pub place : days_of_months b (p.0 - 1) + (p.1 - 1) ≡ k

-- which taking months away finds, from the first of month m on
pub place_is : (n : ℕ) (b : Bool) (m k : ℕ) → m + n ≡ 12 → 1 ≤ m → days_of_months b (m - 1) + k < days_of_months b 12
    → IsPlace b (days_of_months b (m - 1) + k) (place_from n b m k)
unfolding place_from
place_is zero b m k e low h =
    let last : m ≡ 12 = omega arith in
    let step = rw last at (months_step b m low) in
    record { month = (low, omega arith); day = (omega arith, rw last (omega (arith, rw last at h))); place = omega arith }
place_is (suc n) b m k e low h =
    let step = months_step b m low in
    elim (cases_lt k (days_in_month b m)) [
      | inl lt ↦ let t : nat_lt k (days_in_month b m) ≡ true = grind (arith, nat_tests) in
          rw t (record { month = (low, omega arith); day = (omega arith, omega arith); place = omega arith })
      | inr ge ↦ let t : nat_lt k (days_in_month b m) ≡ false = grind (arith, nat_tests) in
          let back : m + 1 - 1 ≡ m = omega arith in
          let same : days_of_months b m + (k - days_in_month b m) ≡ days_of_months b (m - 1) + k = omega arith in
          rw t (rw (back, same) at (place_is n b (m + 1) (k - days_in_month b m) (omega arith) (omega arith) (rw back (omega arith))))
    ]

-- the place of a day between two starts
pub in_year : (s t day : ℤ) (n : ℕ) → s ≤ℤ day → day <ℤ t → t ≡ s +ℤ pos n
    → (unsigned_abs (day -ℤ s) < n) × (s +ℤ pos (unsigned_abs (day -ℤ s)) ≡ day)
in_year s t day n low high e = let g = gap_of s day low in (omega (arith, floors), g)

pub some_date : (day : ℤ) → HasDate day
unfolding day_number
some_date day =
    let year = some_year day in
    let y = year.0 in
    let lies = year.1 in
    let k = unsigned_abs (day -ℤ year_start y) in
    let at_day = in_year (year_start y) (year_start (y +ℤ pos 1)) day (days_in_year y) lies.0 lies.1 (year_step y) in
    let none : days_of_months (is_leap y) 0 ≡ 0 = unfold days_of_months in refl in
    let p = place_is 11 (is_leap y) 1 k refl (omega arith) (omega (arith, none, months_all y, at_day.0)) in
    record {
      year = y;
      month = (place_from 11 (is_leap y) 1 k).0;
      day = (place_from 11 (is_leap y) 1 k).1;
      is_date = (p.month.0, p.month.1, p.day.0, p.day.1);
      number = omega (arith, floors, none, p.place, at_day.1);
    }
