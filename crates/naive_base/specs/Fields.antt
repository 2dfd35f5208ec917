-- Dates and times with a field changed, or moved by months or days.
use Rattle.std.specs.Prelude.{◌≡◌, ℕ, ◌-◌, ◌≤◌, min, ℤ, pos, ◌+ℤ◌, ◌⊎◌, Option, Some, SomeIff, IfSome}
use Rattle.gregorian.specs.{Year.{is_leap, year_start, days_in_year}, Month.{days_in_month}, Date.{IsDate, day_number}}
use Rattle.gregorian.specs.DateOf.{year_of, month_of, day_of_month}
use Rattle.naive_base.specs.{Months.{month_number, year_of_number, month_of_number}, Clock.{clock_second, hour_hand, minute_hand, second_hand}}
use Rattle.naive_base.specs.{Reading.{Reading, reading_at, second_at}, Range.{IsYearInRange, IsDayInRange}}

-- The answer of a call that gives a value something else to show: v, if and only if p holds, and else nothing. `gives` says
-- what comes of that, and what comes of it shows it.
pub record IsGiven {T V : Type 0} (shows : T → V) (gives : Option V → Option T → Type 0) (p : Type 0) (v : V) (answer : Option T) : Type 0 where
  pub value : Option V
  pub there : SomeIff value p v
  pub given : gives value answer
  pub shown : IfSome answer (λ new. value ≡ Some (shows new))

-- what shows the day `old` may show this date: the calendar has it, and its year is in range or it is the old date
abbrev pub MayShow : ℤ → ℤ → ℕ → ℕ → Type 0
MayShow old y m d = IsDate y m d × (IsYearInRange y ⊎ (day_number y m d ≡ old))

-- the answer if the day `old` gives way to that of a date
abbrev pub IsDateGiven : {T : Type 0} → (T → ℤ) → (Option ℤ → Option T → Type 0) → ℤ → ℤ → ℕ → ℕ → Option T → Type 0
IsDateGiven shows gives old y m d answer = IsGiven shows gives (MayShow old y m d) (day_number y m d) answer

-- what shows the day `old` may show the n-th day of a year
abbrev pub MayShowOrdinal : ℤ → ℤ → ℕ → Type 0
MayShowOrdinal old y n = (1 ≤ n) × (n ≤ days_in_year y) × (IsYearInRange y ⊎ (year_start y +ℤ pos (n - 1) ≡ old))

-- the answer if it gives way to the n-th day of a year
abbrev pub IsOrdinalGiven : {T : Type 0} → (T → ℤ) → (Option ℤ → Option T → Type 0) → ℤ → ℤ → ℕ → Option T → Type 0
IsOrdinalGiven shows gives old y n answer = IsGiven shows gives (MayShowOrdinal old y n) (year_start y +ℤ pos (n - 1)) answer

-- the answer if it gives way to a month of a year: the day of the month stays, or is that month's last
abbrev pub IsMonthGiven : {T : Type 0} → (T → ℤ) → (Option ℤ → Option T → Type 0) → ℤ → ℤ → ℕ → Option T → Type 0
IsMonthGiven shows gives old y m answer =
    IsDateGiven shows gives old y m (min (day_of_month old) (days_in_month (is_leap y) m)) answer

-- the number of the month that many months after a day's, or before it for a negative number
abbrev pub month_after : ℤ → ℤ → ℤ
month_after old by = month_number (year_of old) (month_of old) +ℤ by

-- the answer if it gives way to the month that many months later (earlier if negative)
abbrev pub IsMonthsLater : {T : Type 0} → (T → ℤ) → (Option ℤ → Option T → Type 0) → ℤ → ℤ → Option T → Type 0
IsMonthsLater shows gives old by answer =
    let n = month_after old by in
    IsMonthGiven shows gives old (year_of_number n) (month_of_number n) answer

-- what shows the day `old` may show another: a day in range, or the old one
abbrev pub MayShowDay : ℤ → ℤ → Type 0
MayShowDay old day = IsDayInRange day ⊎ (day ≡ old)

-- the answer if it gives way to the day that many days later, or earlier for a negative number
abbrev pub IsDaysLater : {T : Type 0} → (T → ℤ) → (Option ℤ → Option T → Type 0) → ℤ → ℤ → Option T → Type 0
IsDaysLater shows gives old by answer = IsGiven shows gives (MayShowDay old (old +ℤ by)) (old +ℤ by) answer

-- a time of day: its second, and nanoseconds
pub record TimeOfDay : Type 0 where
  pub second : ℕ
  pub fraction : ℕ

-- a time of day with another hour, or minute, or second of the minute, or other nanoseconds
abbrev pub with_hour : TimeOfDay → ℕ → TimeOfDay
with_hour t hour = record { second = clock_second hour (minute_hand t.second) (second_hand t.second); fraction = t.fraction }

abbrev pub with_minute : TimeOfDay → ℕ → TimeOfDay
with_minute t minute = record { second = clock_second (hour_hand t.second) minute (second_hand t.second); fraction = t.fraction }

abbrev pub with_second : TimeOfDay → ℕ → TimeOfDay
with_second t sec = record { second = clock_second (hour_hand t.second) (minute_hand t.second) sec; fraction = t.fraction }

abbrev pub with_fraction : TimeOfDay → ℕ → TimeOfDay
with_fraction t nano = record { second = t.second; fraction = nano }

-- the local date-time of a day and a time, and the time of a local date-time
abbrev pub reading_on : ℤ → TimeOfDay → Reading
reading_on day t = reading_at day t.second t.fraction

-- the time of day of a local date-time
abbrev pub time_at : Reading → TimeOfDay
time_at r = record { second = second_at r; fraction = r.f }
