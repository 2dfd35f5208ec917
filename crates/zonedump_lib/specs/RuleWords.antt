-- A rule in words.
use Rattle.std.specs.Prelude.{ℕ, ◌==◌, ℤ, pos, List, ◌++◌, Option, Some, None, codes, decimal, int_lt, int_le, ◌&&◌, unsigned_abs, if◌then◌else◌}
use Rattle.std.specs.Fmt.{signed_decimal}
use Rattle.naive_base.specs.Text.{time_text}
use Rattle.tz_info.specs.{Rules.{Alternate}, declared.rule.{day.{DayForm.{DayForm}, DayTime.{DayTime}}, transition_rule.TransitionRule.{TransitionRule}}}
use Rattle.zonedump_lib.specs.Words.{type_words}
use Rattle.tz_info.specs.declared.rule.day.DayForm.TheVariants as days
use Rattle.tz_info.specs.declared.rule.transition_rule.TransitionRule.TheVariants as rules

-- a week of a month, if the fifth has the last such weekday
unfoldable pub week_words : ℕ → List ℕ
week_words week =
    if week == 1 then codes "first" else if week == 2 then codes "second" else if week == 3 then codes "third"
    else if week == 4 then codes "fourth" else codes "last"

-- a weekday, 0 for Sunday
unfoldable pub weekday_words : ℕ → List ℕ
weekday_words weekday =
    if weekday == 0 then codes "Sunday" else if weekday == 1 then codes "Monday" else if weekday == 2 then codes "Tuesday"
    else if weekday == 3 then codes "Wednesday" else if weekday == 4 then codes "Thursday" else if weekday == 5 then codes "Friday"
    else codes "Saturday"

-- a month, 1 for January
unfoldable pub month_words : ℕ → List ℕ
month_words month =
    if month == 1 then codes "January" else if month == 2 then codes "February" else if month == 3 then codes "March"
    else if month == 4 then codes "April" else if month == 5 then codes "May" else if month == 6 then codes "June"
    else if month == 7 then codes "July" else if month == 8 then codes "August" else if month == 9 then codes "September"
    else if month == 10 then codes "October" else if month == 11 then codes "November" else codes "December"

-- a day of every year: `the second Sunday of March`, the n-th of the 365 dates of a common year, or n days after 1 January
abbrev pub day_words : DayForm → List ℕ
day_words (days.Julian1 n) = codes "date " ++ decimal n ++ codes " of 365"
day_words (days.Julian0 n) = decimal n ++ codes " days after 1 January"
day_words (days.MonthWeekday month week weekday) =
    codes "the " ++ week_words week ++ codes " " ++ weekday_words weekday ++ codes " of " ++ month_words month

-- a time of a rule's day: `02:00:00` within the day, else its seconds after midnight
unfoldable pub moment_words : ℤ → List ℕ
moment_words time =
    if int_le (pos 0) time && int_lt time (pos 86_400) then time_text (unsigned_abs time) 0
    else signed_decimal time ++ codes " s after midnight"

-- a day and its time
abbrev pub turn_words : DayTime → List ℕ
turn_words turn = day_words turn.day ++ codes " at " ++ moment_words turn.time

-- two types in turns each year: when the clocks are set to daylight saving time and back, each time by the clock before it
abbrev pub turns_words : Alternate → List ℕ
turns_words a =
    type_words a.std ++ codes ", and " ++ type_words a.dst ++ codes " from " ++ turn_words a.start ++ codes " to " ++ turn_words a.end

-- what follows the last transition: nothing else, one type always, or two types in turns each year
abbrev pub rule_words : Option TransitionRule → List ℕ
rule_words None = codes "none"
rule_words (Some (rules.Fixed t)) = type_words t ++ codes " always"
rule_words (Some (rules.Alternate a)) = turns_words a
