-- The texts of the pieces of a TZ string.
use Rattle.std.specs.Prelude.{ℕ, ℤ, pos, int_lt, ◌+ℤ◌, ◌+◌, ◌/◌, ◌%◌, ◌==◌, ◌&&◌, int_le, Bool, true, if◌then◌else◌, List, [], ◌∷◌, ◌++◌, decimal}
use Rattle.std.specs.{Int.RustNames.{unsigned_abs}, Ordering.{int_eq}, List.{list_all}}
use Rattle.tz_base.specs.LocalTypes.{LocalType}
use Rattle.tz_info.specs.{TzGrammar.{comma, minus, dot, slash, colon, less, greater, letter_J, letter_M, is_letter}, Rules.{Alternate}}
use Rattle.tz_info.specs.declared.rule.day.{DayForm.{DayForm, TheVariants.{Julian1, Julian0, MonthWeekday}}, DayTime.{DayTime}}
use Rattle.tz_info.specs.declared.rule.transition_rule.TransitionRule.{TransitionRule}
use Rattle.tz_write.specs.FileDesignations.{name_of}
use Rattle.tz_info.specs.declared.rule.transition_rule.TransitionRule.TheVariants as rules

-- ---- offsets and times
-- a colon and a number below 100 in two digits
abbrev pub spelled_pair : ℕ → List ℕ
spelled_pair n = colon ∷ (48 + n / 10) ∷ (48 + n % 10) ∷ []

-- seconds, left out if they are 0
abbrev pub spelled_seconds : ℕ → List ℕ
spelled_seconds s = if s == 0 then [] else spelled_pair s

-- minutes and seconds, left out if both are 0
abbrev pub spelled_minutes : ℕ → ℕ → List ℕ
spelled_minutes m s = if (m == 0) && (s == 0) then [] else spelled_pair m ++ spelled_seconds s

-- that many seconds, as hours, minutes and seconds
unfoldable pub spelled_clock : ℕ → List ℕ
spelled_clock n = decimal (n / 3600) ++ spelled_minutes (n / 60 % 60) (n % 60)

-- with a minus in front, or with nothing
abbrev pub spelled_signed : Bool → ℕ → List ℕ
spelled_signed negative n = if negative then minus ∷ spelled_clock n else spelled_clock n

-- an offset east of UTC has a minus
unfoldable pub spelled_offset : ℤ → List ℕ
spelled_offset east = spelled_signed (int_lt (pos 0) east) (unsigned_abs east)

-- a time before midnight has one
unfoldable pub spelled_time : ℤ → List ℕ
spelled_time time = spelled_signed (int_lt time (pos 0)) (unsigned_abs time)

-- the time after a date, left out at 2 o'clock
abbrev pub time_after : ℤ → List ℕ
time_after time = if int_eq time (pos 7_200) then [] else slash ∷ spelled_time time

-- ---- names
-- a name of letters has no marks around it
abbrev pub spelled_name : List ℕ → List ℕ
spelled_name name = if list_all is_letter name then name else less ∷ name ++ (greater ∷ [])

-- ---- days
abbrev pub spelled_date : DayForm → List ℕ
spelled_date (Julian1 n) = letter_J ∷ decimal n
spelled_date (Julian0 n) = decimal n
spelled_date (MonthWeekday month week weekday) = letter_M ∷ decimal month ++ (dot ∷ decimal week ++ (dot ∷ decimal weekday))

abbrev pub spelled_day : DayTime → List ℕ
spelled_day d = spelled_date d.day ++ time_after d.time

-- ---- the whole
-- the offset of daylight saving time, left out if it is an hour more than that of standard time
abbrev pub spelled_dst_offset : ℤ → ℤ → List ℕ
spelled_dst_offset std dst = if int_eq dst (std +ℤ pos 3_600) then [] else spelled_offset dst

-- a type's name and offset
abbrev pub spelled_type : LocalType → List ℕ
spelled_type t = spelled_name (name_of t) ++ spelled_offset t.offset

-- the days when daylight saving time starts and ends, each after a comma
abbrev pub spelled_days : Alternate → List ℕ
spelled_days a = comma ∷ spelled_day a.start ++ (comma ∷ spelled_day a.end)

abbrev pub spelled_alternate : Alternate → List ℕ
spelled_alternate a =
    spelled_name (name_of a.std) ++ (spelled_offset a.std.offset
    ++ (spelled_name (name_of a.dst) ++ (spelled_dst_offset a.std.offset a.dst.offset ++ spelled_days a)))

abbrev pub spelled_rule : TransitionRule → List ℕ
spelled_rule (rules.Fixed t) = spelled_type t
spelled_rule (rules.Alternate a) = spelled_alternate a

-- ---- times that need no extensions: from 0 to 24:59:59
abbrev pub is_plain_time : ℤ → Bool
is_plain_time time = int_le (pos 0) time && int_lt time (pos 90_000)

abbrev pub has_plain_times : TransitionRule → Bool
has_plain_times (rules.Fixed t) = true
has_plain_times (rules.Alternate a) = is_plain_time a.start.time && is_plain_time a.end.time
