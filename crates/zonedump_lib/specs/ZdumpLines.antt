-- What `zdump -v` of the tz code prints of a zone in a period: a pair of lines for each change, the second before it and its own.
use Rattle.std.specs.{Prelude.{ℕ, ◌==◌, nat_lt, ℤ, pos, ◌-ℤ◌, List, ◌++◌, Bool, true, false, codes, decimal, if◌then◌else◌, ◌≡◌, ◌+ℤ◌}, Fmt.{signed_decimal}}
use Rattle.std.specs.List.{flat_map}
use Rattle.naive_base.specs.{DateOf.{year_of, month_of, day_of_month}, Reading.{Reading, ahead, day_at, second_at}, Stamp.{of_secs}, Text.{time_text}}
use Rattle.naive_base.specs.Weekday.{weekday_of}
use Rattle.tz_base.specs.{LocalTypes.{LocalType}, declared.change.Change.{Change}}
use Rattle.zonedump_lib.specs.{ChangeLines.{ended_line}, Words.{name_words}, Periods.{first_second, second_after}, declared.period.Bound.{Bound}}
use Rattle.tz_info.specs.{Changes.{AreChanges}, Zones.{Zone, TypeAt}}

-- a weekday in three letters, 0 for Sunday
unfoldable pub short_weekday : ℕ → List ℕ
short_weekday weekday =
    if weekday == 0 then codes "Sun" else if weekday == 1 then codes "Mon" else if weekday == 2 then codes "Tue"
    else if weekday == 3 then codes "Wed" else if weekday == 4 then codes "Thu" else if weekday == 5 then codes "Fri"
    else codes "Sat"

-- a month in three letters, 1 for January
unfoldable pub short_month : ℕ → List ℕ
short_month month =
    if month == 1 then codes "Jan" else if month == 2 then codes "Feb" else if month == 3 then codes "Mar"
    else if month == 4 then codes "Apr" else if month == 5 then codes "May" else if month == 6 then codes "Jun"
    else if month == 7 then codes "Jul" else if month == 8 then codes "Aug" else if month == 9 then codes "Sep"
    else if month == 10 then codes "Oct" else if month == 11 then codes "Nov" else codes "Dec"

-- a day of the month in two places
unfoldable pub short_day : ℕ → List ℕ
short_day day = if nat_lt day 10 then codes " " ++ decimal day else decimal day

-- the date of a day, but its year: `Sun Apr  3`
abbrev pub zdump_day_text : ℤ → List ℕ
zdump_day_text day = short_weekday (weekday_of day) ++ codes " " ++ short_month (month_of day) ++ codes " " ++ short_day (day_of_month day)

-- a local date-time, as asctime of the C library has it: `Sun Apr  3 07:00:00 2005`
abbrev pub asctime_text : Reading → List ℕ
asctime_text r = zdump_day_text (day_at r) ++ codes " " ++ time_text (second_at r) r.f ++ codes " " ++ signed_decimal (year_of (day_at r))

-- what a clock of UTC and one at that offset show at the second
abbrev pub clocks_text : ℤ → ℤ → List ℕ
clocks_text at offset = asctime_text (of_secs at 0) ++ codes " UT = " ++ asctime_text (ahead (of_secs at 0) offset)

-- the flag of daylight saving time
abbrev pub flag_text : Bool → List ℕ
flag_text true = codes "1"
flag_text false = codes "0"

-- a type of local time: `EDT isdst=1 gmtoff=-14400`
abbrev pub type_fields : LocalType → List ℕ
type_fields t = name_words t.name ++ codes " isdst=" ++ flag_text t.dst ++ codes " gmtoff=" ++ signed_decimal t.offset

-- a second at which the type is in force, after the name of the file
abbrev pub second_text : List ℕ → ℤ → LocalType → List ℕ
second_text name at t = name ++ codes "  " ++ clocks_text at t.offset ++ codes " " ++ type_fields t

-- the second before a change, and its own
abbrev pub pair_lines : List ℕ → Change → List ℕ
pair_lines name c = ended_line (second_text name (c.at -ℤ pos 1) c.before) ++ ended_line (second_text name c.at c.after)

-- a second that is too far away for a date
abbrev pub null_line : List ℕ → List ℕ → List ℕ
null_line name second = ended_line (name ++ codes "  " ++ second ++ codes " = NULL")

-- the first second of 64 bits, and that a day later
abbrev pub first_lines : List ℕ → List ℕ
first_lines name = null_line name (codes "-9223372036854775808") ++ null_line name (codes "-9223372036854689408")

-- the second a day before the last one of 64 bits, and the last one
abbrev pub last_lines : List ℕ → List ℕ
last_lines name = null_line name (codes "9223372036854689407") ++ null_line name (codes "9223372036854775807")

-- the lines of some changes of a zone: those of the first seconds of 64 bits, a pair for each change, those of the last ones
abbrev pub zdump_text : List ℕ → List Change → List ℕ
zdump_text name changes = first_lines name ++ flat_map (pair_lines name) changes ++ last_lines name

-- the lines of the zone: the pairs are exactly the changes after the first second of the period, up to the first second after
-- it, in order
abbrev pub IsZdump : List ℕ → Zone → Bound → Bound → List ℕ → Type 0
IsZdump name zone first last text =
    (changes : List Change)
    × AreChanges (TypeAt zone) (first_second first +ℤ pos 1) (second_after last +ℤ pos 1) changes
    × (text ≡ zdump_text name changes)
