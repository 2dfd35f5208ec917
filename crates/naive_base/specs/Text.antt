-- What dates, times and local date-times print, as lists of bytes.
use Rattle.std.specs.{Prelude.{ℕ, ◌+◌, ◌-◌, ◌/◌, ◌%◌, ◌==◌, nat_lt, ◌||◌, if◌then◌else◌, List, [], ◌∷◌, ◌++◌, ℤ, pos, unsigned_abs, int_lt}, Fmt.{decimal}}
use Rattle.offset_core.specs.Digits.{in_digits, sign_byte}
use Rattle.gregorian.specs.DateOf.{year_of, month_of, day_of_month}
use Rattle.naive_base.specs.Reading.{Reading, day_at, second_at}

-- a number in at least four digits
abbrev pub four_digits : ℕ → List ℕ
four_digits n = if nat_lt n 10_000 then in_digits 4 n else decimal n

-- a year from 0 to 9999 in four digits, any other with its sign and in at least four digits
unfoldable pub year_text : ℤ → List ℕ
year_text y =
    if int_lt y (pos 0) || int_lt (pos 9999) y then sign_byte y ∷ four_digits (unsigned_abs y)
    else four_digits (unsigned_abs y)

-- `-MM-DD` ('-' is 45)
abbrev pub month_day_text : ℕ → ℕ → List ℕ
month_day_text m d = 45 ∷ (in_digits 2 m ++ (45 ∷ in_digits 2 d))

abbrev pub date_text : ℤ → ℕ → ℕ → List ℕ
date_text y m d = year_text y ++ month_day_text m d

-- `HH:MM:SS` (':' is 58)
abbrev pub clock_text : ℕ → ℕ → ℕ → List ℕ
clock_text h m s = in_digits 2 h ++ (58 ∷ (in_digits 2 m ++ (58 ∷ in_digits 2 s)))

-- nothing for 0, else a point and as many of 3, 6 or 9 digits as it takes ('.' is 46)
abbrev pub fraction_text : ℕ → List ℕ
fraction_text f =
    if f == 0 then []
    else if f % 1_000_000 == 0 then 46 ∷ in_digits 3 (f / 1_000_000)
    else if f % 1_000 == 0 then 46 ∷ in_digits 6 (f / 1_000)
    else 46 ∷ in_digits 9 f

-- the second of the minute that is shown, and the nanoseconds since it began: a leap second is the next second
abbrev pub shown_second : ℕ → ℕ → ℕ
shown_second second f = if nat_lt f 1_000_000_000 then second % 60 else second % 60 + 1

abbrev pub shown_fraction : ℕ → ℕ
shown_fraction f = if nat_lt f 1_000_000_000 then f else f - 1_000_000_000

-- the time at that second of the day and those nanoseconds
abbrev pub time_text : ℕ → ℕ → List ℕ
time_text second f =
    clock_text (second / 3600) (second / 60 % 60) (shown_second second f) ++ fraction_text (shown_fraction f)

-- the date, a byte between, and the time
abbrev pub reading_text : ℕ → Reading → List ℕ
reading_text between r =
    date_text (year_of (day_at r)) (month_of (day_at r)) (day_of_month (day_at r))
    ++ (between ∷ time_text (second_at r) r.f)
