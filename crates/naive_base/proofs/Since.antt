-- Months and days that have passed, and local date-times moved by both.
use Rattle.std.proofs.{Common.{Bool}, Math.Nat.{min-le_left}, lemmas.Bool.{cases_lt, cases_order}}
use Rattle.std.specs.Prelude.{◌↔◌}
use Rattle.gregorian.proofs.ForCallers.{months_rise, months_step}
use Rattle.naive_base.proofs.Words.{IsWide, IsWideDay, None, Some, ap, suc, zero, ◌∙◌, IsDate, IsEarlier, MatchOption, Option, Reading, SomeIff, arith, by_lt_z, date_is, date_only, day_at, day_number, day_of_month}
use Rattle.naive_base.proofs.Words.{days_in_month, floor_mod_parts, floors, inl, inr, ints, is_leap, lies_in, min, month_after, month_bounds, month_of, month_of_number}
use Rattle.naive_base.proofs.Words.{number_at, pos, reading_at, refl, second_at, starts_rise, subst, sym, unsigned_abs, year_of, year_of_number, year_start, ℕ, ℤ, ◌*◌, ◌*ℤ◌}
use Rattle.naive_base.proofs.Words.{◌+ℤ◌, ◌-ℤ◌, ◌-◌, ◌<◌, ◌<ℤ◌, ◌≡◌, ◌≤ℤ◌, ◌≤◌, ◌⊎◌}
use Rattle.naive_base.specs.{Months.{month_number}, Reading.{IsEarlierTime}}
use Rattle.naive_base.specs.Since.{HaveDaysPassed, HaveMonthsPassed, IsEarlierInMonth, IsGreatest, day_months_later, days_later, later_by, month_at, AreMonthsCounted}
use Rattle.naive_base.proofs.MonthDates.{date_in_month}

-- the greatest of the numbers from 0 to w
pub greatest : (p : ℕ → Type 0) (w : ℤ) (answer : Option ℕ) → ((n : ℕ) → p n ↔ (pos n ≤ℤ w)) → SomeIff answer (pos 0 ≤ℤ w) (unsigned_abs w)
    → MatchOption answer (¬ (p 0)) (λ n. IsGreatest p n)
greatest p w answer up is = grind (arith, ints)

-- whole months and days, by the two cases of the time: it is earlier, or not
passed_early : (a b : ℤ) (earlier : Type 0) → earlier → (n : ℕ) → (((a +ℤ pos n) <ℤ b) ⊎ ((a +ℤ pos n ≡ b) × ¬ earlier)) ↔ (pos n ≤ℤ (b -ℤ a -ℤ pos 1))
passed_early a b earlier early n = (λ h. elim h [ inl less ↦ omega (arith, ints) | inr both ↦ absurd (both.1 early) ], λ h. inl (omega (arith, ints)))

passed_late : (a b : ℤ) (earlier : Type 0) → ¬ earlier → (n : ℕ) → (((a +ℤ pos n) <ℤ b) ⊎ ((a +ℤ pos n ≡ b) × ¬ earlier)) ↔ (pos n ≤ℤ (b -ℤ a))
passed_late a b earlier late n = (
  λ h. elim h [ inl less ↦ omega (arith, ints) | inr both ↦ omega (arith, ints) ],
  λ h. by_lt_z (a +ℤ pos n) b (λ less. inl less) (λ not. inr (omega (arith, ints), late)),
)

module _ (l m : Reading) where
  pub months_early : IsEarlierInMonth l m → (n : ℕ) → HaveMonthsPassed l m n ↔ (pos n ≤ℤ (month_at l -ℤ month_at m -ℤ pos 1))
  months_early = passed_early (month_at m) (month_at l) (IsEarlierInMonth l m)

  pub months_late : ¬ (IsEarlierInMonth l m) → (n : ℕ) → HaveMonthsPassed l m n ↔ (pos n ≤ℤ (month_at l -ℤ month_at m))
  months_late = passed_late (month_at m) (month_at l) (IsEarlierInMonth l m)

  pub days_early : IsEarlierTime (second_at l) l.f (second_at m) m.f → (n : ℕ) → HaveDaysPassed l m n ↔ (pos n ≤ℤ (day_at l -ℤ day_at m -ℤ pos 1))
  days_early e n =
      let a = floor_mod_parts l.s 86_400 (omega arith) in let b = floor_mod_parts m.s 86_400 (omega arith) in (
        λ not. by_lt_z (day_at l -ℤ day_at m -ℤ pos 1) (pos n)
            (λ less. elim e [
              | inl before ↦ absurd (not (inl (omega (arith, floors))))
              | inr same ↦ by_lt_z l.s (days_later m n).s (λ lt. absurd (not (inl lt))) (λ ge. absurd (not (inr (omega (arith, floors), same.1))))
            ])
            (λ most. most),
        λ most earlier. elim e [
          | inl before ↦ elim earlier [ inl lt ↦ omega (arith, floors) | inr both ↦ omega (arith, floors) ]
          | inr same ↦ elim earlier [ inl lt ↦ omega (arith, floors) | inr both ↦ omega (arith, floors) ]
        ],
      )

  pub days_late : ¬ (IsEarlierTime (second_at l) l.f (second_at m) m.f) → (n : ℕ) → HaveDaysPassed l m n ↔ (pos n ≤ℤ (day_at l -ℤ day_at m))
  days_late late n =
      let a = floor_mod_parts l.s 86_400 (omega arith) in let b = floor_mod_parts m.s 86_400 (omega arith) in (
        λ not. by_lt_z (day_at l -ℤ day_at m) (pos n) (λ less. absurd (not (inl (omega (arith, floors))))) (λ most. most),
        λ most earlier. elim (cases_order (second_at l) (second_at m)) [
          | inl alike ↦ elim earlier [ inl lt ↦ omega (arith, floors) | inr both ↦ late (inr (alike, both.1)) ]
          | inr (inl less) ↦ late (inl less)
          | inr (inr more) ↦ elim earlier [ inl lt ↦ omega (arith, floors) | inr both ↦ omega (arith, floors) ]
        ],
      )

-- Months in order.

-- two days whose months come one after the other, or are one
year_rises : (a b : ℤ) → a ≤ℤ b → year_of a ≤ℤ year_of b
year_rises a b le = by_lt_z (year_of b) (year_of a)
    (λ less. absurd (omega (arith, ints, starts_rise (year_of b +ℤ pos 1) (year_of a) (omega (arith, ints)), lies_in a, lies_in b)))
    (λ not. not)

least_days : (b : Bool) (m : ℕ) → 1 ≤ days_in_month b m
least_days b m = omega (arith, month_bounds b m)

month_in_same : (y : ℤ) (m d k e : ℕ) → 1 ≤ m → d ≤ days_in_month (is_leap y) m → 1 ≤ e → m < k → day_number y m d <ℤ day_number y k e
unfolding day_number
month_in_same y m d k e low last first less =
    omega (arith, ints, months_step (is_leap y) m low, months_rise (is_leap y) m (k - 1) (omega arith), least_days (is_leap y) m)

abbrev pub month_of_day : ℤ → ℤ
month_of_day day = month_number (year_of day) (month_of day)

pub month_rises : (a b : ℤ) → a ≤ℤ b → month_of_day a ≤ℤ month_of_day b
month_rises a b le =
    let year = year_rises a b le in let early = date_is a in let late = date_is b in
    by_lt_z (year_of a) (year_of b) (λ less. omega (arith, ints))
    (λ not. let same : year_of b ≡ year_of a = omega (arith, ints) in
    elim (cases_order (month_of a) (month_of b)) [
      | inl alike ↦ omega (arith, ints)
      | inr (inl less) ↦ omega (arith, ints)
      | inr (inr more) ↦
          let before = month_in_same (year_of a) (month_of b) (day_of_month b) (month_of a) (day_of_month a) late.0.0 (rw same at late.0.3) early.0.2 more in
          let number : day_number (year_of a) (month_of b) (day_of_month b) ≡ b = rw same at late.1 in absurd (omega (arith, ints))
    ])

pub month_before : (a b : ℤ) → month_of_day a <ℤ month_of_day b → a <ℤ b
month_before a b less = by_lt_z a b (λ lt. lt) (λ not. absurd (omega (arith, ints, month_rises b a not)))

pub within_month : (a b : ℤ) → month_of_day a ≡ month_of_day b → b -ℤ a ≡ pos (day_of_month b) -ℤ pos (day_of_month a)
within_month a b same =
    let early = date_is a in let late = date_is b in
    let year : year_of b ≡ year_of a = omega (arith, ints) in let month : month_of b ≡ month_of a = omega (arith, ints) in
    let number : day_number (year_of a) (month_of a) (day_of_month b) ≡ b = rw (year, month) at late.1 in
    omega (arith, ints, number_at (year_of a) (month_of a) (day_of_month a) early.0.2, number_at (year_of a) (month_of a) (day_of_month b) late.0.2)

-- the month of the day n months later, and its day of the month
pub later_month : (day : ℤ) (n : ℕ) → let later = day_months_later day n in
    (month_of_day later ≡ month_of_day day +ℤ pos n) × (day_of_month later ≤ day_of_month day)
later_month day n =
    let number = month_after day (pos n) in let date = date_in_month day number in
    let only = date_only (day_months_later day n) (year_of_number number) (month_of_number number) (min (day_of_month day)
    (days_in_month (is_leap (year_of_number number)) (month_of_number number))) date refl in
    (omega (arith, ints, floors, only), omega (arith, only, min-le_left (day_of_month day) (days_in_month (is_leap (year_of_number number)) (month_of_number number))))

-- Local date-times moved by months and days.

-- no months later it is the day itself, and else a later day
none_later : (day : ℤ) → day_months_later day 0 ≡ day
none_later day =
    let own = date_is day in let number = month_after day (pos 0) in
    let year : year_of_number number ≡ year_of day = omega (arith, ints, floors, own.0.0, own.0.1) in
    let month : month_of_number number ≡ month_of day = omega (arith, ints, floors, own.0.0, own.0.1) in
    let least : min (day_of_month day) (days_in_month (is_leap (year_of day)) (month_of day)) ≡ day_of_month day = omega (arith, own.0.3) in
    rw (year, month, least) (own.1)

not_before : (day : ℤ) (n : ℕ) → day ≤ℤ day_months_later day n
not_before day zero = omega (arith, ints, none_later day)
not_before day (suc k) = omega (arith, ints, month_before day (day_months_later day (suc k)) (omega (arith, ints, later_month day (suc k))))

pub later_by-none : (m : Reading) → later_by m 0 0 ≡ m
later_by-none m = ap (λ s. record { s = s; f = m.f }) (omega (arith, floors, none_later (day_at m), floor_mod_parts m.s 86_400 (omega arith)))

pub later_not_before : (m : Reading) (n d : ℕ) → m.s ≤ℤ (later_by m n d).s
later_not_before m n d = let a = floor_mod_parts m.s 86_400 (omega arith) in omega (arith, floors, not_before (day_at m) n)

pub at_later_day : {T : Type 0} (l : Reading) (n d : ℕ) (day : ℤ) (shows : T → Reading) (found : Option T) → day ≡ day_months_later (day_at l) n +ℤ pos d
    → MatchOption found (¬ (IsWideDay day)) (λ r. shows r ≡ reading_at day (second_at l) l.f)
    → MatchOption found (¬ (IsWide (later_by l n d).s)) (λ r. shows r ≡ later_by l n d)
at_later_day l n d day shows None e is =
    let low = floor_mod_parts l.s 86_400 (omega arith) in λ wide. is (omega (arith, floors), omega (arith, floors))
at_later_day l n d day shows (Some r) e is = is ∙ ap (λ s. record { s = s; f = l.f }) (omega (arith, ints))

-- what has passed by a local date-time, has passed by a later one
pub first_not_after : (k l : Reading) → ¬ (IsEarlier k l) → l.s ≤ℤ k.s
first_not_after k l not = by_lt_z k.s l.s (λ less. absurd (not (inl less))) (λ more. more)

earlier_too : (l k m : Reading) → ¬ (IsEarlier k l) → day_at k -ℤ day_at l ≡ pos (day_of_month (day_at k)) -ℤ pos (day_of_month (day_at l))
    → IsEarlierInMonth k m → IsEarlierInMonth l m
earlier_too l k m not same earlier =
    let le = first_not_after k l not in
    let a = floor_mod_parts l.s 86_400 (omega arith) in let b = floor_mod_parts k.s 86_400 (omega arith) in
    elim (cases_order (day_of_month (day_at l)) (day_of_month (day_at m))) [
      | inr (inl less) ↦ inl less
      | inr (inr more) ↦ elim earlier [ inl less ↦ absurd (omega (arith, floors)) | inr both ↦ absurd (omega (arith, floors)) ]
      | inl alike ↦ elim earlier [
        | inl less ↦ absurd (omega (arith, floors))
        | inr both ↦ elim both.1 [
          | inl before ↦ inr (alike, inl (omega (arith, floors)))
          | inr times ↦ elim (cases_order (second_at l) (second_at m)) [
            | inr (inl less) ↦ inr (alike, inl less)
            | inr (inr more) ↦ absurd (omega (arith, floors))
            | inl even ↦ inr (
              alike,
              inr (
                even,
                elim (cases_lt l.f m.f) [
                  | inl less ↦ less
                  | inr more ↦ absurd (not (inr (omega (arith, floors), omega (arith, floors))))
                ],
              ),
            )
          ]
        ]
      ]
    ]

pub months_rise_with : (l k m : Reading) (n : ℕ) → ¬ (IsEarlier k l) → HaveMonthsPassed l m n → HaveMonthsPassed k m n
months_rise_with l k m n not h =
    let le = first_not_after k l not in let rises = month_rises (day_at l) (day_at k) (omega (arith, floors)) in
    elim h [
      | inl less ↦ inl (omega (arith, ints))
      | inr both ↦ by_lt_z (month_at m +ℤ pos n) (month_at k) (λ less. inl less)
          (λ more. inr (omega (arith, ints), λ earlier. both.1 (earlier_too l k m not (within_month (day_at l) (day_at k) (omega (arith, ints))) earlier)))
    ]

-- if n months have passed, the local date-time n months later isn't later
pub months_reached : (l m : Reading) (n : ℕ) → HaveMonthsPassed l m n → ¬ (IsEarlier l (later_by m n 0))
months_reached l m n h =
    let day = day_months_later (day_at m) n in let month = later_month (day_at m) n in
    let a = floor_mod_parts l.s 86_400 (omega arith) in let b = floor_mod_parts m.s 86_400 (omega arith) in
    elim h [
      | inl less ↦ let before = month_before day (day_at l) (omega (arith, ints)) in
          λ e. elim e [ inl lt ↦ omega (arith, floors) | inr both ↦ omega (arith, floors) ]
      | inr both ↦ let within = within_month day (day_at l) (omega (arith, ints)) in λ e.
          elim (cases_order (day_of_month (day_at l)) (day_of_month (day_at m))) [
            | inr (inl less) ↦ both.1 (inl less)
            | inr (inr more) ↦ elim e [ inl lt ↦ omega (arith, floors) | inr same ↦ omega (arith, floors) ]
            | inl alike ↦ elim e [
              | inl lt ↦ both.1 (inr (alike, inl (omega (arith, floors))))
              | inr same ↦ both.1 (inr (alike, inr (omega (arith, floors), same.1)))
            ]
          ]
    ]

-- the count of what has passed, or 0
pub counted : (p : ℕ → Type 0) (n : ℕ) → IsGreatest p n → IsGreatest (λ k. (k ≡ 0) ⊎ p k) n
counted p n is = record { holds = inr is.holds; greatest = λ k h. elim h [ inl none ↦ omega arith | inr passed ↦ is.greatest k passed ] }

pub none_counted : (p : ℕ → Type 0) → ((k : ℕ) → p k → p 0) → ¬ (p 0) → IsGreatest (λ k. (k ≡ 0) ⊎ p k) 0
none_counted p fewer not = record { holds = inl refl; greatest = λ k h. elim h [ inl none ↦ omega arith | inr passed ↦ absurd (not (fewer k passed)) ] }

pub fewer_months : (l m : Reading) (k : ℕ) → HaveMonthsPassed l m k → HaveMonthsPassed l m 0
fewer_months l m k h = elim h [
  | inl less ↦ inl (omega (arith, ints))
  | inr both ↦ by_lt_z (month_at m +ℤ pos 0) (month_at l) (λ less. inl less) (λ more. inr (omega (arith, ints), both.1))
]

pub fewer_days : (l m : Reading) (k : ℕ) → HaveDaysPassed l m k → HaveDaysPassed l m 0
fewer_days l m k h = λ e. elim e [
  | inl less ↦ h (inl (omega (arith, ints)))
  | inr both ↦ by_lt_z l.s (days_later m k).s (λ less. h (inl less)) (λ more. h (inr (omega (arith, ints), both.1)))
]

-- the begin of the days that are left is in range or on a buffer day
pub start_is_wide : (l m : Reading) (n : ℕ) → IsWide l.s → IsWide m.s → AreMonthsCounted l m n → IsWide (later_by m n 0).s
start_is_wide l m n high low h =
    let from = not_before (day_at m) n in
    let a = floor_mod_parts m.s 86_400 (omega arith) in elim h.holds [
      | inl none ↦ subst (λ k. IsWide (later_by m k 0).s) (sym none) (subst (λ (r : Reading). IsWide r.s) (sym (later_by-none m)) low)
      | inr passed ↦ let not = first_not_after l (later_by m n 0) (months_reached l m n passed) in (omega (arith, floors), omega (arith, floors))
    ]

pub ruleset passed = (greatest, months_early, months_late, days_early, days_late)
