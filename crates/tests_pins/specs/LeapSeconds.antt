-- The leap seconds of UTC, as IERS has announced them: one at the end of each of these 27 days.
use Rattle.std.specs.Prelude.{ℕ, ℤ, pos, List, [], ◌∷◌}
use Rattle.naive_base.specs.Date.{day_number}
use Rattle.tz_base.specs.declared.leap_second.LeapSecond.{LeapSecond}

-- an entry of the table: the leap time of an inserted second, and how many there are from then on
abbrev pub entry : ℤ → ℕ → LeapSecond
entry time correction = record { unix_leap_time = time; correction = pos correction }

-- a second inserted, another one 28 days later, and one left out after 28 days more
abbrev pub back_and_forth : List LeapSecond
back_and_forth = entry (pos 0) 1 ∷ entry (pos 2_419_199) 2 ∷ entry (pos 4_838_398) 1 ∷ []

-- the times at which they are inserted, leap seconds counted, and how many there are from then on
abbrev pub utc_leaps : List LeapSecond
utc_leaps =
    entry (pos 78_796_800) 1 ∷
    entry (pos 94_694_401) 2 ∷
    entry (pos 126_230_402) 3 ∷
    entry (pos 157_766_403) 4 ∷
    entry (pos 189_302_404) 5 ∷
    entry (pos 220_924_805) 6 ∷
    entry (pos 252_460_806) 7 ∷
    entry (pos 283_996_807) 8 ∷
    entry (pos 315_532_808) 9 ∷
    entry (pos 362_793_609) 10 ∷
    entry (pos 394_329_610) 11 ∷
    entry (pos 425_865_611) 12 ∷
    entry (pos 489_024_012) 13 ∷
    entry (pos 567_993_613) 14 ∷
    entry (pos 631_152_014) 15 ∷
    entry (pos 662_688_015) 16 ∷
    entry (pos 709_948_816) 17 ∷
    entry (pos 741_484_817) 18 ∷
    entry (pos 773_020_818) 19 ∷
    entry (pos 820_454_419) 20 ∷
    entry (pos 867_715_220) 21 ∷
    entry (pos 915_148_821) 22 ∷
    entry (pos 1_136_073_622) 23 ∷
    entry (pos 1_230_768_023) 24 ∷
    entry (pos 1_341_100_824) 25 ∷
    entry (pos 1_435_708_825) 26 ∷
    entry (pos 1_483_228_826) 27 ∷
    []

-- the day after each, at whose midnight UTC it ends
abbrev pub days_after : List ℤ
days_after =
    day_number (pos 1972) 7 1 ∷
    day_number (pos 1973) 1 1 ∷
    day_number (pos 1974) 1 1 ∷
    day_number (pos 1975) 1 1 ∷
    day_number (pos 1976) 1 1 ∷
    day_number (pos 1977) 1 1 ∷
    day_number (pos 1978) 1 1 ∷
    day_number (pos 1979) 1 1 ∷
    day_number (pos 1980) 1 1 ∷
    day_number (pos 1981) 7 1 ∷
    day_number (pos 1982) 7 1 ∷
    day_number (pos 1983) 7 1 ∷
    day_number (pos 1985) 7 1 ∷
    day_number (pos 1988) 1 1 ∷
    day_number (pos 1990) 1 1 ∷
    day_number (pos 1991) 1 1 ∷
    day_number (pos 1992) 7 1 ∷
    day_number (pos 1993) 7 1 ∷
    day_number (pos 1994) 7 1 ∷
    day_number (pos 1996) 1 1 ∷
    day_number (pos 1997) 7 1 ∷
    day_number (pos 1999) 1 1 ∷
    day_number (pos 2006) 1 1 ∷
    day_number (pos 2009) 1 1 ∷
    day_number (pos 2012) 7 1 ∷
    day_number (pos 2015) 7 1 ∷
    day_number (pos 2017) 1 1 ∷
    []
