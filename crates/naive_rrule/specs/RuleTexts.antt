-- The text of a rule: the RECUR value of RFC 5545, section 3.3.10. Letters may be in either case.
use Rattle.std.specs.Prelude.{◌==◌, ◌&&◌, ◌⊎◌, ◌≡◌, ◌<◌, ◌≤◌, ⊤, ◌+◌, ◌-◌, ◌*◌, ◌+ℤ◌, ◌*ℤ◌, ℕ, suc, ℤ, pos, neg_ℤ, unsigned_abs, Bool, true, false, not, nat_lt, if◌then◌else◌, List, [], ◌∷◌, ◌++◌}
use Rattle.std.specs.{Prelude.{length, take, drop, get_or, Option, Some, None, option_map, Result, Ok, Err, codes}, Char.{is_ascii_digit, to_ascii_uppercase}, List.{slice_split, find}}
use Rattle.gregorian.specs.{Date.{IsDate, day_number}, Month.{days_in_month}, Year.{is_leap}}
use Rattle.naive_base.specs.{NaiveDateTime.{reading}, declared.weekday.Weekday.{Weekday}}
use Rattle.naive_base.specs.declared.weekday.Weekday.TheVariants as days
use Rattle.naive_rrule.specs.declared.rule.{RecurrenceRule.{RecurrenceRule}, Frequency.{Frequency, TheVariants.{Yearly, Monthly, Weekly, Daily, Hourly, Minutely, Secondly}}, NthWeekday.{NthWeekday}}
use Rattle.naive_rrule.specs.declared.rule_text.{CalendarDay.{CalendarDay}, ClockTime.{ClockTime}, PartName.{PartName}, RuleEnd.{RuleEnd}, RuleExpected.{RuleExpected}, RuleTextError.{RuleTextError, TheVariants.{Syntax, OutOfMemory}}}
use Rattle.naive_rrule.specs.declared.recurrence.RecurrenceEnd.{RecurrenceEnd}
use Rattle.naive_rrule.specs.declared.recurrence.RecurrenceEnd.TheVariants as local_ends
use Rattle.naive_rrule.specs.declared.rule_text.PartName.TheVariants as names
use Rattle.naive_rrule.specs.declared.rule_text.RuleEnd.TheVariants as ends
use Rattle.naive_rrule.specs.declared.rule_text.RuleExpected.TheVariants as expected

-- ---- words
-- the text is that word, in either case
abbrev pub is_word : List ℕ → List ℕ → Bool
is_word [] [] = true
is_word [] (w ∷ ws) = false
is_word (b ∷ bs) [] = false
is_word (b ∷ bs) (w ∷ ws) = (to_ascii_uppercase b == w) && is_word bs ws

abbrev pub name_text : PartName → List ℕ
name_text names.Freq = codes "FREQ"
name_text names.Interval = codes "INTERVAL"
name_text names.Count = codes "COUNT"
name_text names.Until = codes "UNTIL"
name_text names.Wkst = codes "WKST"
name_text names.ByMonth = codes "BYMONTH"
name_text names.ByWeekNo = codes "BYWEEKNO"
name_text names.ByYearDay = codes "BYYEARDAY"
name_text names.ByMonthDay = codes "BYMONTHDAY"
name_text names.ByDay = codes "BYDAY"
name_text names.ByHour = codes "BYHOUR"
name_text names.ByMinute = codes "BYMINUTE"
name_text names.BySecond = codes "BYSECOND"
name_text names.BySetPos = codes "BYSETPOS"

abbrev pub frequency_text : Frequency → List ℕ
frequency_text Yearly = codes "YEARLY"
frequency_text Monthly = codes "MONTHLY"
frequency_text Weekly = codes "WEEKLY"
frequency_text Daily = codes "DAILY"
frequency_text Hourly = codes "HOURLY"
frequency_text Minutely = codes "MINUTELY"
frequency_text Secondly = codes "SECONDLY"

abbrev pub weekday_text : Weekday → List ℕ
weekday_text days.Mon = codes "MO"
weekday_text days.Tue = codes "TU"
weekday_text days.Wed = codes "WE"
weekday_text days.Thu = codes "TH"
weekday_text days.Fri = codes "FR"
weekday_text days.Sat = codes "SA"
weekday_text days.Sun = codes "SU"

-- the value that the text is the word of
abbrev pub word_of : {X : Type 0} → (X → List ℕ) → List X → List ℕ → Option X
word_of spelling all text = find (λ v. is_word text (spelling v)) all

-- ---- numbers
-- digits after a number n, one above `most` excluded
abbrev pub number_from : ℕ → ℕ → List ℕ → Option ℕ
number_from most n [] = Some n
number_from most n (b ∷ bs) = if is_ascii_digit b && nat_lt (10 * n + (b - 48)) (suc most) then number_from most (10 * n + (b - 48)) bs else None

-- at least one digit and no more than `digits`, which spell a number up to `most`
abbrev pub number : ℕ → ℕ → List ℕ → Option ℕ
number digits most text = if nat_lt 0 (length text) && nat_lt (length text) (suc digits) then number_from most 0 text else None

-- a number with or without a sign ('-' is 45, '+' is 43)
abbrev pub signed : ℕ → List ℕ → Option ℤ
signed digits [] = None
signed digits (b ∷ bs) =
    if b == 45 then option_map (λ n. neg_ℤ (pos n)) (number digits 999 bs)
    else if b == 43 then option_map pos (number digits 999 bs)
    else option_map pos (number digits 999 (b ∷ bs))

abbrev pub if_some : {X Y : Type 0} → Option X → (X → Option Y) → Option Y
if_some None f = None
if_some (Some x) f = f x

abbrev pub weekdays : List Weekday
weekdays = days.Mon ∷ days.Tue ∷ days.Wed ∷ days.Thu ∷ days.Fri ∷ days.Sat ∷ days.Sun ∷ []

-- that number of a weekday, and not 0
abbrev pub numbered : Weekday → ℤ → Option NthWeekday
numbered day n = if unsigned_abs n == 0 then None else Some (record { weekday = day; nth = n })

-- an entry of BYDAY: a weekday's two letters, with a number in front or not
abbrev pub entry : List ℕ → Option NthWeekday
entry text = let front = length text - 2 in if_some (word_of weekday_text weekdays (drop front text)) (λ day.
    if front == 0 then Some (record { weekday = day; nth = pos 0 }) else if_some (signed 2 (take front text)) (numbered day))

-- ---- dates and times
-- the two digits at a place
abbrev pub two_at : ℕ → ℕ → List ℕ → Option ℕ
two_at i most text = number 2 most (take 2 (drop i text))

abbrev pub day_in : ℕ → ℕ → ℕ → Option CalendarDay
day_in y m d =
    if nat_lt 0 m && nat_lt m 13 && nat_lt 0 d && nat_lt d (suc (days_in_month (is_leap (pos y)) m)) then Some (record { year = y; month = m; day = d })
    else None

-- `YYYYMMDD`
abbrev pub date : List ℕ → Option CalendarDay
date text = if_some (number 4 9999 (take 4 text)) (λ y. if_some (two_at 4 99 text) (λ m. if_some (two_at 6 99 text) (day_in y m)))

-- `THHMMSS` ('T' is 84) after a date
abbrev pub time : List ℕ → Option ClockTime
time text = if to_ascii_uppercase (get_or text 8 0) == 84 then
    if_some (two_at 9 23 text) (λ h. if_some (two_at 11 59 text) (λ m. option_map (λ s. record { hour = h; minute = m; second = s }) (two_at 13 59 text)))
    else None

-- a date, a local date-time, or one in UTC, with `Z` (90) behind it
abbrev pub until : List ℕ → Option RuleEnd
until text =
    if length text == 8 then option_map ends.Date (date text)
    else if length text == 15 then if_some (date text) (λ d. option_map (ends.Local d) (time text))
    else if (length text == 16) && (to_ascii_uppercase (get_or text 15 0) == 90) then if_some (date text) (λ d. option_map (ends.Utc d) (time text))
    else None

abbrev pub IsCalendarDay : CalendarDay → Type 0
IsCalendarDay d = (d.year ≤ 9999) × IsDate (pos d.year) d.month d.day

abbrev pub IsClockTime : ClockTime → Type 0
IsClockTime t = (t.hour < 24) × (t.minute < 60) × (t.second < 60)

-- an UNTIL of the calendar and of the clock
abbrev pub IsEnd : RuleEnd → Type 0
IsEnd ends.Never = ⊤
IsEnd (ends.Count n) = ⊤
IsEnd (ends.Date d) = IsCalendarDay d
IsEnd (ends.Local d t) = IsCalendarDay d × IsClockTime t
IsEnd (ends.Utc d t) = IsCalendarDay d × IsClockTime t

abbrev pub number_of : CalendarDay → ℤ
number_of d = day_number (pos d.year) d.month d.day

abbrev pub second_of : CalendarDay → ClockTime → ℤ
second_of d t = number_of d *ℤ pos 86_400 +ℤ pos (t.hour * 3600 + t.minute * 60 + t.second)

abbrev pub IsUntil : ℤ → RecurrenceEnd → Type 0
IsUntil s (local_ends.Until l) = (reading l).s ≡ s
IsUntil s _ = ⊥

-- UNTIL of a date lets the whole day through, and one in UTC is what clocks at an offset show then
abbrev pub IsLocalEnd : RuleEnd → ℤ → RecurrenceEnd → Type 0
IsLocalEnd ends.Never z e = e ≡ local_ends.Never
IsLocalEnd (ends.Count n) z e = e ≡ local_ends.Count n
IsLocalEnd (ends.Date d) z e = IsUntil (number_of d *ℤ pos 86_400 +ℤ pos 86_399) e
IsLocalEnd (ends.Local d t) z e = IsUntil (second_of d t) e
IsLocalEnd (ends.Utc d t) z e = IsUntil (second_of d t +ℤ z) e

abbrev pub utc_of : RuleEnd → Option ℤ
utc_of (ends.Utc d t) = Some (second_of d t)
utc_of _ = None

-- ---- parts
pub record RuleParts : Type 0 where
  pub frequency : Option Frequency
  pub interval : Option ℕ
  pub week_start : Option Weekday
  pub by_month : List ℕ
  pub by_week_number : List ℤ
  pub by_year_day : List ℤ
  pub by_month_day : List ℤ
  pub by_weekday : List NthWeekday
  pub by_hour : List ℕ
  pub by_minute : List ℕ
  pub by_second : List ℕ
  pub by_set_position : List ℤ
  pub end : RuleEnd

abbrev pub none : RuleParts
none = record {
  frequency = None;
  interval = None;
  week_start = None;
  by_month = [];
  by_week_number = [];
  by_year_day = [];
  by_month_day = [];
  by_weekday = [];
  by_hour = [];
  by_minute = [];
  by_second = [];
  by_set_position = [];
  end = ends.Never;
}

infixl 10 ◌>>=◌
abbrev pub ◌>>=◌ : {X Y : Type 0} → Result X RuleTextError → (X → Result Y RuleTextError) → Result Y RuleTextError
(Ok x) >>= f = f x
(Err e) >>= f = Err e

-- the value, or a fault: what was expected at a position
abbrev pub expect : {X : Type 0} → Option X → ℕ → RuleExpected → Result X RuleTextError
expect (Some x) at e = Ok x
expect None at e = Err (Syntax at e)

-- the pieces between separators
abbrev pub pieces : ℕ → List ℕ → List (List ℕ)
pieces separator = slice_split (λ b. b == separator)

-- a list, with entries behind it, of which the first begins at a position
abbrev pub entries : {X : Type 0} → (List ℕ → Option X) → RuleExpected → ℕ → List (List ℕ) → List X → Result (List X) RuleTextError
entries item e at [] list = Ok list
entries item e at (t ∷ ts) list = expect (item t) at e >>= λ x. entries item e (at + length t + 1) ts (list ++ x ∷ [])

abbrev pub numbers : ℕ → List ℕ → Result (List ℕ) RuleTextError
numbers at text = entries (number 2 999) expected.Number at (pieces 44 text) []

abbrev pub places : ℕ → ℕ → List ℕ → Result (List ℤ) RuleTextError
places digits at text = entries (signed digits) expected.Number at (pieces 44 text) []

abbrev pub count : ℕ → List ℕ → Result ℕ RuleTextError
count at text = expect (number (length text) 4_294_967_295 text) at expected.Number

abbrev pub frequencies : List Frequency
frequencies = Yearly ∷ Monthly ∷ Weekly ∷ Daily ∷ Hourly ∷ Minutely ∷ Secondly ∷ []

-- the parts, with the value of one more, which begins at a position
abbrev pub with_value : PartName → ℕ → List ℕ → RuleParts → Result RuleParts RuleTextError
with_value names.Freq at text p = expect (word_of frequency_text frequencies text) at expected.Frequency >>= λ f. Ok (record p { frequency = Some f })
with_value names.Interval at text p = count at text >>= λ n. Ok (record p { interval = Some n })
with_value names.Count at text p = count at text >>= λ n. Ok (record p { end = ends.Count n })
with_value names.Until at text p = expect (until text) at expected.DateOrDateTime >>= λ e. Ok (record p { end = e })
with_value names.Wkst at text p = expect (word_of weekday_text weekdays text) at expected.Weekday >>= λ d. Ok (record p { week_start = Some d })
with_value names.ByMonth at text p = numbers at text >>= λ l. Ok (record p { by_month = l })
with_value names.ByWeekNo at text p = places 2 at text >>= λ l. Ok (record p { by_week_number = l })
with_value names.ByYearDay at text p = places 3 at text >>= λ l. Ok (record p { by_year_day = l })
with_value names.ByMonthDay at text p = places 2 at text >>= λ l. Ok (record p { by_month_day = l })
with_value names.ByDay at text p = entries entry expected.Weekday at (pieces 44 text) [] >>= λ l. Ok (record p { by_weekday = l })
with_value names.ByHour at text p = numbers at text >>= λ l. Ok (record p { by_hour = l })
with_value names.ByMinute at text p = numbers at text >>= λ l. Ok (record p { by_minute = l })
with_value names.BySecond at text p = numbers at text >>= λ l. Ok (record p { by_second = l })
with_value names.BySetPos at text p = places 3 at text >>= λ l. Ok (record p { by_set_position = l })

abbrev pub is_some : {X : Type 0} → Option X → Bool
is_some None = false
is_some (Some x) = true

abbrev pub is_open : RuleEnd → Bool
is_open ends.Never = true
is_open _ = false

-- the part is there already; COUNT and UNTIL exclude one another
abbrev pub has : PartName → RuleParts → Bool
has names.Freq p = is_some p.frequency
has names.Interval p = is_some p.interval
has names.Count p = not (is_open p.end)
has names.Until p = not (is_open p.end)
has names.Wkst p = is_some p.week_start
has names.ByMonth p = nat_lt 0 (length p.by_month)
has names.ByWeekNo p = nat_lt 0 (length p.by_week_number)
has names.ByYearDay p = nat_lt 0 (length p.by_year_day)
has names.ByMonthDay p = nat_lt 0 (length p.by_month_day)
has names.ByDay p = nat_lt 0 (length p.by_weekday)
has names.ByHour p = nat_lt 0 (length p.by_hour)
has names.ByMinute p = nat_lt 0 (length p.by_minute)
has names.BySecond p = nat_lt 0 (length p.by_second)
has names.BySetPos p = nat_lt 0 (length p.by_set_position)

abbrev pub part_names : List PartName
part_names = names.Freq ∷ names.Interval ∷ names.Count ∷ names.Until ∷ names.Wkst ∷ names.ByMonth ∷ names.ByWeekNo ∷ names.ByYearDay ∷ names.ByMonthDay
    ∷ names.ByDay ∷ names.ByHour ∷ names.ByMinute ∷ names.BySecond ∷ names.BySetPos ∷ []

-- the bytes in front of the first separator, and those after it
abbrev pub front_of : ℕ → List ℕ → List ℕ
front_of separator [] = []
front_of separator (b ∷ bs) = if b == separator then [] else b ∷ front_of separator bs

abbrev pub after_of : ℕ → List ℕ → Option (List ℕ)
after_of separator [] = None
after_of separator (b ∷ bs) = if b == separator then Some bs else after_of separator bs

-- one part more, `NAME=value` ('=' is 61)
abbrev pub with_new : PartName → ℕ → List ℕ → RuleParts → Result RuleParts RuleTextError
with_new name at text p = if has name p then Err (Syntax at expected.OtherPart) else
    (expect (after_of 61 text) (at + length text) expected.EqualsSign >>= λ value. with_value name (at + length (front_of 61 text) + 1) value p)

abbrev pub with_part : ℕ → List ℕ → RuleParts → Result RuleParts RuleTextError
with_part at text p = expect (word_of name_text part_names (front_of 61 text)) at expected.PartName >>= λ name. with_new name at text p

-- the parts, of which the first begins at a position
abbrev pub with_parts : ℕ → List (List ℕ) → RuleParts → Result RuleParts RuleTextError
with_parts at [] p = Ok p
with_parts at (t ∷ ts) p = with_part at t p >>= with_parts (at + length t + 1) ts

-- FREQ is required
abbrev pub complete : ℕ → RuleParts → Result RuleParts RuleTextError
complete at p = if is_some p.frequency then Ok p else Err (Syntax at expected.FrequencyPart)

-- the rule that the text spells, or its first fault
abbrev pub rule_of : List ℕ → Result RuleParts RuleTextError
rule_of text = with_parts 0 (pieces 59 text) none >>= complete (length text)

-- what a reader returned, seen by `view`; it may run out of memory
abbrev pub IsRead : {X Y : Type 0} → (X → Y) → Result X RuleTextError → Result Y RuleTextError → Type 0
IsRead view (Ok x) r = r ≡ Ok (view x)
IsRead view (Err e) r = (e ≡ OutOfMemory) ⊎ (r ≡ Err e)

abbrev pub or_else : {X : Type 0} → Option X → X → X
or_else None d = d
or_else (Some x) d = x

-- the rule of those parts
pub record IsRuleOf (p : RuleParts) (r : RecurrenceRule) : Type 0 where
  pub frequency : p.frequency ≡ Some r.frequency
  pub interval : r.interval ≡ or_else p.interval 1
  pub week_start : r.week_start ≡ or_else p.week_start days.Mon
  pub by_month : r.by_month.now ≡ p.by_month
  pub by_week_number : r.by_week_number.now ≡ p.by_week_number
  pub by_year_day : r.by_year_day.now ≡ p.by_year_day
  pub by_month_day : r.by_month_day.now ≡ p.by_month_day
  pub by_weekday : r.by_weekday.now ≡ p.by_weekday
  pub by_hour : r.by_hour.now ≡ p.by_hour
  pub by_minute : r.by_minute.now ≡ p.by_minute
  pub by_second : r.by_second.now ≡ p.by_second
  pub by_set_position : r.by_set_position.now ≡ p.by_set_position
