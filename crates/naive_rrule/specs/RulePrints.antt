-- What a rule prints.
use Rattle.std.specs.{Prelude.{◌==◌, ◌%◌, if◌then◌else◌, ℕ, ℤ, unsigned_abs, List, [], ◌∷◌, ◌++◌, Option, Some, None, codes}, Fmt.{decimal, signed_decimal}, List.{flat_map}}
use Rattle.offset_core.specs.Digits.{in_digits}
use Rattle.naive_base.specs.declared.weekday.Weekday.{Weekday}
use Rattle.naive_rrule.specs.RuleTexts.{RuleParts, frequency_text, name_text, weekday_text}
use Rattle.naive_rrule.specs.declared.{rule.{Frequency.{Frequency}, NthWeekday.{NthWeekday}}, rule_text.{CalendarDay.{CalendarDay}, ClockTime.{ClockTime}, PartName.{PartName}}}
use Rattle.naive_rrule.specs.declared.rule_text.RuleEnd.{RuleEnd, TheVariants.{Never, Count, Date, Local, Utc}}
use Rattle.naive_rrule.specs.declared.rule_text.PartName.TheVariants as names

-- `;NAME=value` (';' is 59, '=' is 61)
abbrev pub part_text : PartName → List ℕ → List ℕ
part_text name value = 59 ∷ (name_text name ++ (61 ∷ value))

-- a list's entries with commas (44) between, or nothing if it has none
abbrev pub list_text : {X : Type 0} → PartName → (X → List ℕ) → List X → List ℕ
list_text name spelled [] = []
list_text name spelled (x ∷ xs) = part_text name (spelled x ++ flat_map (λ y. 44 ∷ spelled y) xs)

abbrev pub entry_text : NthWeekday → List ℕ
entry_text e = if unsigned_abs e.nth == 0 then weekday_text e.weekday else signed_decimal e.nth ++ weekday_text e.weekday

abbrev pub numbers_text : PartName → List ℕ → List ℕ
numbers_text name = list_text name decimal

abbrev pub places_text : PartName → List ℤ → List ℕ
places_text name = list_text name signed_decimal

abbrev pub weekdays_text : List NthWeekday → List ℕ
weekdays_text = list_text names.ByDay entry_text

abbrev pub interval_text : Option ℕ → List ℕ
interval_text None = []
interval_text (Some n) = part_text names.Interval (decimal n)

abbrev pub week_start_text : Option Weekday → List ℕ
week_start_text None = []
week_start_text (Some day) = part_text names.Wkst (weekday_text day)

-- `YYYYMMDD`
abbrev pub day_text : CalendarDay → List ℕ
day_text d = in_digits 4 (d.year % 10_000) ++ in_digits 2 (d.month % 100) ++ in_digits 2 (d.day % 100)

-- `HHMMSS`
abbrev pub time_text : ClockTime → List ℕ
time_text t = in_digits 2 (t.hour % 100) ++ in_digits 2 (t.minute % 100) ++ in_digits 2 (t.second % 100)

abbrev pub end_text : RuleEnd → List ℕ
end_text Never = []
end_text (Count n) = part_text names.Count (decimal n)
end_text (Date d) = part_text names.Until (day_text d)
end_text (Local d t) = part_text names.Until (day_text d ++ (84 ∷ time_text t))
end_text (Utc d t) = part_text names.Until (day_text d ++ (84 ∷ (time_text t ++ (90 ∷ []))))

abbrev pub dates_text : RuleParts → List ℕ
dates_text p = numbers_text names.ByMonth p.by_month ++ places_text names.ByWeekNo p.by_week_number ++ places_text names.ByYearDay p.by_year_day
    ++ places_text names.ByMonthDay p.by_month_day ++ weekdays_text p.by_weekday

abbrev pub times_text : RuleParts → List ℕ
times_text p = numbers_text names.ByHour p.by_hour ++ numbers_text names.ByMinute p.by_minute ++ numbers_text names.BySecond p.by_second
    ++ places_text names.BySetPos p.by_set_position ++ end_text p.end

abbrev pub freq_text : Option Frequency → List ℕ
freq_text None = []
freq_text (Some f) = codes "FREQ=" ++ frequency_text f

abbrev pub rule_text : RuleParts → List ℕ
rule_text p = freq_text p.frequency ++ interval_text p.interval ++ week_start_text p.week_start ++ dates_text p ++ times_text p
