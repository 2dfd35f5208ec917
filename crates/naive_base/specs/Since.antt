-- The months and the days that have passed from one local date-time to another, and local date-times moved by both.
use Rattle.std.specs.Prelude.{◌≡◌, ◌⊎◌, ℕ, ◌*◌, ◌<◌, ◌≤◌, ℤ, pos, ◌+ℤ◌, ◌<ℤ◌, min, Option, MatchOption}
use Rattle.gregorian.specs.{Year.{is_leap}, Month.{days_in_month}, Date.{day_number}, DateOf.{year_of, month_of, day_of_month}}
use Rattle.naive_base.specs.{Fields.{month_after}, Months.{month_number, year_of_number, month_of_number}}
use Rattle.naive_base.specs.Reading.{Reading, day_at, second_at, reading_at, ahead, IsEarlier, IsEarlierTime}

-- n has the property, and no greater number has it
pub record IsGreatest (p : ℕ → Type 0) (n : ℕ) : Type 0 where
  pub holds : p n
  pub greatest : (k : ℕ) → p k → k ≤ n

-- the number of the month that a local date-time lies in
abbrev pub month_at : Reading → ℤ
month_at l = month_number (year_of (day_at l)) (month_of (day_at l))

-- in its month l comes before m in its own: by the day of the month, then by the time
abbrev pub IsEarlierInMonth : Reading → Reading → Type 0
IsEarlierInMonth l m =
    (day_of_month (day_at l) < day_of_month (day_at m))
    ⊎ ((day_of_month (day_at l) ≡ day_of_month (day_at m)) × IsEarlierTime (second_at l) l.f (second_at m) m.f)

-- n months have passed from m to l: the month n months after m's is before l's, or it is l's and l isn't earlier in it. So from
-- 31 January the first month has passed on 1 March.
abbrev pub HaveMonthsPassed : Reading → Reading → ℕ → Type 0
HaveMonthsPassed l m n =
    ((month_at m +ℤ pos n) <ℤ month_at l) ⊎ ((month_at m +ℤ pos n ≡ month_at l) × ¬ (IsEarlierInMonth l m))

-- the local date-time n days later, at the same time of day
abbrev pub days_later : Reading → ℕ → Reading
days_later m n = ahead m (pos (86_400 * n))

-- n days have passed from m to l: l isn't earlier than m n days later
abbrev pub HaveDaysPassed : Reading → Reading → ℕ → Type 0
HaveDaysPassed l m n = ¬ (IsEarlier l (days_later m n))

-- the whole months, or days, that have passed from m to l; nothing if l is earlier, so that not even none have passed
abbrev pub IsMonthsSince : Reading → Reading → Option ℕ → Type 0
IsMonthsSince l m months = MatchOption months (¬ (HaveMonthsPassed l m 0)) (λ n. IsGreatest (HaveMonthsPassed l m) n)

abbrev pub IsDaysSince : Reading → Reading → Option ℕ → Type 0
IsDaysSince l m days = MatchOption days (¬ (HaveDaysPassed l m 0)) (λ n. IsGreatest (HaveDaysPassed l m) n)

-- the day n months after another one: that day of its month, or the month's last if it has fewer days
abbrev pub day_months_later : ℤ → ℕ → ℤ
day_months_later day n =
    let number = month_after day (pos n) in let y = year_of_number number in let m = month_of_number number in
    day_number y m (min (day_of_month day) (days_in_month (is_leap y) m))

-- the local date-time n months and then d days later, at the same time of day
abbrev pub later_by : Reading → ℕ → ℕ → Reading
later_by l n d = days_later (reading_at (day_months_later (day_at l) n) (second_at l) l.f) d

-- n is the greatest number of months that have passed from m to l, or 0 if not even none have
abbrev pub AreMonthsCounted : Reading → Reading → ℕ → Type 0
AreMonthsCounted l m n = IsGreatest (λ k. (k ≡ 0) ⊎ HaveMonthsPassed l m k) n

-- d is the greatest number of days that have then passed from m, n months later, to l
abbrev pub AreDaysCounted : Reading → Reading → ℕ → ℕ → Type 0
AreDaysCounted l m n d = IsGreatest (λ k. (k ≡ 0) ⊎ HaveDaysPassed l (later_by m n 0) k) d
