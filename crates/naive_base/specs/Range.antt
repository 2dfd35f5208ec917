-- The range of dates and local date-times, and the buffer day at either end of it.
use Rattle.std.specs.Prelude.{ℕ, ◌<◌, ℤ, pos, neg_ℤ, ◌≤ℤ◌}
use Rattle.naive_base.specs.Reading.{Reading}

-- the first and the last year of the range
abbrev pub first_year : ℤ
first_year = neg_ℤ (pos 262_143)

abbrev pub last_year : ℤ
last_year = pos 262_142

-- the first day of the first year, and the last day of the last
abbrev pub first_day : ℤ
first_day = neg_ℤ (pos 96_465_292)

abbrev pub last_day : ℤ
last_day = pos 95_026_236

-- the first second of the first day, and the last second of the last
abbrev pub first_second : ℤ
first_second = neg_ℤ (pos 8_334_601_228_800)

abbrev pub last_second : ℤ
last_second = pos 8_210_266_876_799

-- the years of the range
abbrev pub IsYearInRange : ℤ → Type 0
IsYearInRange y = (first_year ≤ℤ y) × (y ≤ℤ last_year)

-- all of them but the first and the last: a day away from a date of these years is still in range
abbrev pub IsInnerYear : ℤ → Type 0
IsInnerYear y = (neg_ℤ (pos 262_142) ≤ℤ y) × (y ≤ℤ pos 262_141)

-- the days of the years in range
abbrev pub IsDayInRange : ℤ → Type 0
IsDayInRange day = (first_day ≤ℤ day) × (day ≤ℤ last_day)

-- the days of the inner years: a year away from these a day is still in range
abbrev pub IsInnerDay : ℤ → Type 0
IsInnerDay day = (neg_ℤ (pos 96_464_927) ≤ℤ day) × (day ≤ℤ pos 95_025_871)

-- the years in range and those of the buffer days
abbrev pub IsWideYear : ℤ → Type 0
IsWideYear y = (neg_ℤ (pos 262_144) ≤ℤ y) × (y ≤ℤ pos 262_143)

-- a day in range or a buffer day, which lies in the year -262144 or 262143
abbrev pub IsWideDay : ℤ → Type 0
IsWideDay day = (neg_ℤ (pos 96_465_293) ≤ℤ day) × (day ≤ℤ pos 95_026_237)

-- the seconds of the days in range
abbrev pub IsInRange : ℤ → Type 0
IsInRange s = (first_second ≤ℤ s) × (s ≤ℤ last_second)

-- the seconds of the days of the inner years
abbrev pub IsInner : ℤ → Type 0
IsInner s = (neg_ℤ (pos 8_334_569_692_800) ≤ℤ s) × (s ≤ℤ pos 8_210_235_340_799)

-- the seconds in range or on a buffer day
abbrev pub IsWide : ℤ → Type 0
IsWide s = (neg_ℤ (pos 8_334_601_315_200) ≤ℤ s) × (s ≤ℤ pos 8_210_266_963_199)

-- what a local date-time holds
abbrev pub IsReading : ℤ → ℕ → Type 0
IsReading s f = IsWide s × (f < 2_000_000_000)

-- what a time of day holds
abbrev pub IsTime : ℕ → ℕ → Type 0
IsTime s f = (s < 86_400) × (f < 2_000_000_000)

-- 1970-01-01 00:00:00
abbrev pub epoch : Reading
epoch = record { s = pos 0; f = 0 }

-- the first local date-time in range, and the last that is no leap second
abbrev pub first_reading : Reading
first_reading = record { s = first_second; f = 0 }

-- the last local date-time in range that is no leap second
abbrev pub last_reading : Reading
last_reading = record { s = last_second; f = 999_999_999 }
