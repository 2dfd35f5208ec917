-- TZ strings, stdoffset[dst[offset],start[/time],end[/time]] (POSIX.1 section 8.3, "TZ"), with the extensions of RFC 8536
-- section 3.3.1 if `extended` is true. The lines of a definition are the parts of the string, in order.
use Rattle.std.specs.Prelude.{ℕ, ℤ, pos, neg_ℤ, ◌+ℤ◌, ◌+◌, ◌*◌, ◌≤◌, ◌≤ℤ◌, ◌==◌, nat_le, Bool, true, false, not, ◌&&◌, ◌||◌, if◌then◌else◌, List}
use Rattle.std.specs.Prelude.{[], Some}
use Rattle.tz_base.specs.{Names.{IsName, expected_of_name}, LocalTypes.{LocalType}}
use Rattle.tz_base.specs.{Steps.{Comparisons.{at_most, no_greater, three}, TextTests.{name_test}}, Tests.{Test}}
use Rattle.tz_base.specs.Grammar.{Grammar, Nothing, Marked, Optional, Ended, End, Byte, Run, Number, Check, Here, At, ◌>>=◌, ◌>>◌, Spells, HasFault}
use Rattle.tz_base.specs.{Grammar.{fault_position}, declared.error.Error.{Error}}
use Rattle.tz_info.specs.{RuleDays.{IsRuleDay, rule_day_test, expected_of_day}, declared.rule.day.DayForm.{DayForm}}
use Rattle.tz_info.specs.declared.rule.day.{DayForm.TheVariants.{Julian1, Julian0, MonthWeekday}, DayTime.{DayTime}}
use Rattle.tz_info.specs.declared.rule.transition_rule.TransitionRule.{TransitionRule, TheVariants.{Fixed, Alternate}}
use Rattle.tz_base.specs.Grammar as grammar
use Rattle.tz_base.specs.Refusals as refused
use Rattle.tz_base.specs.declared.error.Expected.TheVariants as expected

-- ---- bytes of ASCII
abbrev pub plus : ℕ
plus = 43

abbrev pub comma : ℕ
comma = 44

abbrev pub minus : ℕ
minus = 45

abbrev pub dot : ℕ
dot = 46

abbrev pub slash : ℕ
slash = 47

abbrev pub colon : ℕ
colon = 58

abbrev pub less : ℕ
less = 60

abbrev pub greater : ℕ
greater = 62

abbrev pub letter_J : ℕ
letter_J = 74

abbrev pub letter_M : ℕ
letter_M = 77

abbrev pub is_letter : ℕ → Bool
is_letter b = (nat_le 65 b && nat_le b 90) || (nat_le 97 b && nat_le b 122)

abbrev pub is_not_greater : ℕ → Bool
is_not_greater b = not (b == greater)

-- ---- offsets and times: hh[:mm[:ss]]
-- the limits of the numbers of times, of dates `Mm.w.d` and of day numbers, before their own
abbrev pub clock_max : ℕ
clock_max = 2_147_483_647

abbrev pub date_max : ℕ
date_max = 255

abbrev pub day_max : ℕ
day_max = 65535

-- seconds left out are 0
unfoldable pub seconds : Grammar ℕ
seconds = Optional colon 0 (Number clock_max)

unfoldable pub minutes_seconds : Grammar (ℕ × ℕ)
minutes_seconds = do
  m ← Number clock_max
  s ← seconds
  Nothing (m, s)

-- minutes left out are 0, and then no seconds come
unfoldable pub optional_minutes : Grammar (ℕ × ℕ)
optional_minutes = Optional colon (0, 0) minutes_seconds

unfoldable pub hours_minutes_seconds : Grammar (ℕ × ℕ × ℕ)
hours_minutes_seconds = do
  h ← Number clock_max
  (m, s) ← optional_minutes
  Nothing (h, m, s)

-- whether there is a minus; a plus means the same as no sign
unfoldable pub sign : Grammar Bool
sign = Marked plus (Nothing false) (Marked minus (Nothing true) (Nothing false))

abbrev pub signed_seconds : Bool → ℕ → ℕ → ℕ → ℤ
signed_seconds negative h m s = if negative then neg_ℤ (pos (3600 * h + 60 * m + s)) else pos (3600 * h + 60 * m + s)

-- hours up to the limit, minutes and seconds up to 59
abbrev pub AreWithin : ℕ → ℕ → ℕ → ℕ → Type 0
AreWithin limit h m s = (h ≤ limit) × (m ≤ 59) × (s ≤ 59)

abbrev pub within_test : (limit h m s : ℕ) → Test (AreWithin limit h m s)
within_test limit h m s = three (at_most h limit) (at_most m 59) (at_most s 59)

abbrev pub checked_seconds : ℕ → Bool → ℕ → ℕ → ℕ → Grammar ℤ
checked_seconds limit negative h m s =
    Check (AreWithin limit h m s) (within_test limit h m s) (refused.InvalidTzString expected.HoursMinutesAndSecondsWithinTheirLimits)
    (signed_seconds negative h m s)

-- the seconds of a duration without its sign; one outside its limits is rejected at its hours
unfoldable pub duration : ℕ → Bool → Grammar ℤ
duration limit negative = Here λ at_hours. do
  (h, m, s) ← hours_minutes_seconds
  At at_hours (checked_seconds limit negative h m s)

-- an offset, in seconds east of UTC: a text counts west, and so a minus leads east; its hours go to 23 (POSIX allows 24)
unfoldable pub offset : Grammar ℤ
offset = do
  is_minus ← sign
  duration 23 (not is_minus)

-- with the extensions a time of day has a sign and hours up to 167, else no sign and hours up to 24
unfoldable pub time_sign : Bool → Grammar Bool
time_sign true = sign
time_sign false = Nothing false

abbrev pub time_limit : Bool → ℕ
time_limit extended = if extended then 167 else 24

-- a time of day, in seconds after midnight
unfoldable pub time : Bool → Grammar ℤ
time extended = do
  is_minus ← time_sign extended
  duration (time_limit extended) is_minus

-- ---- names
-- after `<`: the bytes up to the first `>`
unfoldable pub quoted : Grammar (List ℕ)
quoted = do
  text ← Run is_not_greater
  Byte greater
  Nothing text

-- or the longest run of letters
unfoldable pub name : Grammar (List ℕ)
name = Marked less quoted (Run is_letter)

-- ---- dates
unfoldable pub checked_day : DayForm → Grammar DayForm
checked_day form = Check (IsRuleDay form) (rule_day_test form) (refused.TransitionRule (expected_of_day form)) form

-- of a month, a week and a weekday, each with the place at which it begins, the place of the first that is out of its limits
abbrev pub place_of_day : ℕ → ℕ → List ℕ → List ℕ → List ℕ → List ℕ
place_of_day month week at_month at_week at_weekday =
    if nat_le 1 month && nat_le month 12 then (if nat_le 1 week && nat_le week 5 then at_weekday else at_week) else at_month

-- after `M`: month, week and weekday
unfoldable pub month_date : Grammar DayForm
month_date = Here λ at_month. do
  month ← Number date_max
  Byte dot
  Here λ at_week. do
    week ← Number date_max
    Byte dot
    Here λ at_weekday. do
      weekday ← Number date_max
      At (place_of_day month week at_month at_week at_weekday) (checked_day (MonthWeekday month week weekday))

-- after `J`: the day of a common year
unfoldable pub julian_date : Grammar DayForm
julian_date = Here λ at_day. do
  n ← Number day_max
  At at_day (checked_day (Julian1 n))

-- the days after 1 January
unfoldable pub numbered_day : Grammar DayForm
numbered_day = Here λ at_day. do
  n ← Number day_max
  At at_day (checked_day (Julian0 n))

unfoldable pub date : Grammar DayForm
date = Marked letter_M month_date (Marked letter_J julian_date numbered_day)

-- the default time is 2 o'clock
unfoldable pub optional_time : Bool → Grammar ℤ
optional_time extended = Optional slash (pos 7_200) (time extended)

unfoldable pub day : Bool → Grammar DayTime
day extended = do
  form ← date
  time ← optional_time extended
  Nothing (record { day = form; time = time })

unfoldable pub days : Bool → Grammar (DayTime × DayTime)
days extended = do
  start ← day extended
  Byte comma
  end ← day extended
  Nothing (start, end)

-- ---- the offset of daylight saving time, and the comma after it
-- an hour more than that is still less than a day
abbrev pub IsHourMoreWithinDay : ℤ → Type 0
IsHourMoreWithinDay std = (std +ℤ pos 3_600) ≤ℤ pos 86_399

-- left out, the offset is an hour more than that of standard time
unfoldable pub next_hour : ℤ → Grammar ℤ
next_hour std = Check (IsHourMoreWithinDay std) (no_greater _ _) (refused.InvalidTzString expected.OffsetOfDaylightSavingTimeWithinDay) (std +ℤ pos 3_600)

-- a string that ends before the days is not supported
unfoldable pub more : Grammar (Unit {0})
more = grammar.Some (refused.UnsupportedTzString expected.DaysWhenDaylightSavingTimeStartsAndEnds)

unfoldable pub given_offset : Grammar ℤ
given_offset = do
  more
  east ← offset
  more
  Byte comma
  Nothing east

-- a default offset outside its limits is rejected at the comma
unfoldable pub dst_offset : ℤ → Grammar ℤ
dst_offset std = Here λ at_comma. Marked comma (At at_comma (next_hour std)) given_offset

-- ---- the whole
abbrev pub named_type : List ℕ → Bool → ℤ → LocalType
named_type text dst offset = record { offset = offset; dst = dst; name = Some text }

-- the type of that name, if a type can have it; if not, the name is rejected at its first byte
unfoldable pub named : List ℕ → List ℕ → Bool → ℤ → Grammar LocalType
named at_name text dst offset = At at_name
    (Check (IsName text) (name_test text) (refused.LocalTimeType (expected_of_name text)) (named_type text dst offset))

unfoldable pub end : Grammar (Unit {0})
end = End (refused.InvalidTzString expected.NothingAfterText)

-- one type
unfoldable pub fixed : List ℕ → List ℕ → ℤ → Grammar TransitionRule
fixed at_name std_name std_offset = do
  std ← named at_name std_name false std_offset
  Nothing (Fixed std)

-- two types that take turns; their names are judged last
unfoldable pub alternate : Bool → List ℕ → List ℕ → ℤ → Grammar TransitionRule
alternate extended at_std std_name std_offset = Here λ at_dst. do
  dst_name ← name
  dst_offset ← dst_offset std_offset
  (start, stop) ← days extended
  end
  std ← named at_std std_name false std_offset
  dst ← named at_dst dst_name true dst_offset
  Nothing (Alternate (record { std = std; dst = dst; start = start; end = stop }))

unfoldable pub rule : Bool → List ℕ → List ℕ → ℤ → Grammar TransitionRule
rule extended at_name std_name std_offset = Ended (fixed at_name std_name std_offset) (alternate extended at_name std_name std_offset)

unfoldable pub text : Bool → Grammar TransitionRule
text extended = Here λ at_name. do
  std_name ← name
  std_offset ← offset
  rule extended at_name std_name std_offset

-- the bytes are a TZ string, with extensions or without, that spells the rule
abbrev pub IsTzText : Bool → List ℕ → TransitionRule → Type 0
IsTzText extended bytes rule = Spells (text extended) bytes rule []

-- what is wrong with a TZ string
abbrev pub IsTextFault : Bool → List ℕ → Error → Type 0
IsTextFault extended bytes e = HasFault (text extended) bytes e

-- the position of the fault of a TZ string: the number of bytes in front of it
abbrev pub text_fault_position : Bool → List ℕ → ℕ
text_fault_position extended bytes = fault_position (text extended) bytes
