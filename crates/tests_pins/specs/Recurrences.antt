-- Rules and local times of examples of RFC 5545, sections 3.3.10, 3.6.1, 3.6.5 and 3.8.5.3.
use Rattle.std.specs.{Prelude.{ℕ, ℤ, pos, neg_ℤ, ◌+ℤ◌, ◌*ℤ◌, List, [], ◌∷◌}, Borrow.{Bor}}
use Rattle.naive_base.specs.{Clock.{clock_second}, Date.{day_number}, declared.weekday.Weekday.{Weekday, TheVariants.{Mon, Tue, Wed, Thu, Fri, Sun}}}
use Rattle.naive_rrule.specs.declared.rule.{Frequency.{Frequency, TheVariants.{Yearly, Monthly, Weekly, Daily}}, NthWeekday.{NthWeekday}}
use Rattle.naive_rrule.specs.declared.rule.RecurrenceRule.{RecurrenceRule}

-- ---- local times
-- a time of day on a date
abbrev pub local : ℤ → ℕ → ℕ → ℕ → ℕ → ℕ → ℤ
local y m d hour minute second = day_number y m d *ℤ pos 86_400 +ℤ pos (clock_second hour minute second)

abbrev pub at_nine : ℤ → ℕ → ℕ → ℤ
at_nine y m d = local y m d 9 0 0

-- ---- rules
-- a list at some address
abbrev pub listed : {X : Type 0} → List X → Bor (List X)
listed part = record { ref_ptr = (0, 0); now = part }

-- the rule that has only FREQ and INTERVAL, and WKST=MO
abbrev pub plain : Frequency → ℕ → RecurrenceRule
plain frequency interval = record {
  frequency = frequency;
  interval = interval;
  week_start = Mon;
  by_month = listed [];
  by_week_number = listed [];
  by_year_day = listed [];
  by_month_day = listed [];
  by_weekday = listed [];
  by_hour = listed [];
  by_minute = listed [];
  by_second = listed [];
  by_set_position = listed [];
}

-- entries of BYDAY
abbrev pub nth : ℤ → Weekday → NthWeekday
nth n weekday = record { weekday = weekday; nth = n }

abbrev pub every : Weekday → NthWeekday
every = nth (pos 0)

-- FREQ=..;INTERVAL=1;BYDAY=..
abbrev pub on_weekdays : Frequency → List NthWeekday → RecurrenceRule
on_weekdays frequency entries = record (plain frequency 1) { by_weekday = listed entries }

-- FREQ=YEARLY;BYMONTH=10;BYDAY=-1SU
abbrev pub last_sundays_of_october : RecurrenceRule
last_sundays_of_october = record (on_weekdays Yearly (nth (neg_ℤ (pos 1)) Sun ∷ [])) { by_month = listed (10 ∷ []) }

-- FREQ=MONTHLY;BYDAY=FR;BYMONTHDAY=13
abbrev pub fridays_the_13th : RecurrenceRule
fridays_the_13th = record (on_weekdays Monthly (every Fri ∷ [])) { by_month_day = listed (pos 13 ∷ []) }

-- FREQ=..;BYMONTHDAY=-3
abbrev pub third_days_to_the_last : Frequency → RecurrenceRule
third_days_to_the_last frequency = record (plain frequency 1) { by_month_day = listed (neg_ℤ (pos 3) ∷ []) }

-- FREQ=..;INTERVAL=3;BYYEARDAY=1,100,200
abbrev pub three_days : Frequency → RecurrenceRule
three_days frequency = record (plain frequency 3) { by_year_day = listed (pos 1 ∷ pos 100 ∷ pos 200 ∷ []) }

-- FREQ=YEARLY;BYYEARDAY=-306
abbrev pub day_306_to_the_last : RecurrenceRule
day_306_to_the_last = record (plain Yearly 1) { by_year_day = listed (neg_ℤ (pos 306) ∷ []) }

-- FREQ=..;BYWEEKNO=20;BYDAY=..
abbrev pub in_week_20 : Frequency → NthWeekday → RecurrenceRule
in_week_20 frequency entry = record (on_weekdays frequency (entry ∷ [])) { by_week_number = listed (pos 20 ∷ []) }

-- FREQ=WEEKLY;INTERVAL=2;BYDAY=TU,SU;WKST=MO
abbrev pub from_monday : RecurrenceRule
from_monday = record (plain Weekly 2) { by_weekday = listed (every Tue ∷ every Sun ∷ []) }

-- the same with WKST=SU
abbrev pub from_sunday : RecurrenceRule
from_sunday = record from_monday { week_start = Sun }

-- FREQ=YEARLY;BYMONTH=6,7
abbrev pub in_june_and_july : RecurrenceRule
in_june_and_july = record (plain Yearly 1) { by_month = listed (6 ∷ 7 ∷ []) }

-- FREQ=DAILY;BYHOUR=9,10,11,12,13,14,15,16;BYMINUTE=0,20,40
abbrev pub every_20_minutes : RecurrenceRule
every_20_minutes = record (plain Daily 1) {
  by_hour = listed (9 ∷ 10 ∷ 11 ∷ 12 ∷ 13 ∷ 14 ∷ 15 ∷ 16 ∷ []);
  by_minute = listed (0 ∷ 20 ∷ 40 ∷ []);
}

-- FREQ=DAILY;INTERVAL=10
abbrev pub every_tenth_day : RecurrenceRule
every_tenth_day = plain Daily 10

-- FREQ=DAILY;BYMONTH=1
abbrev pub days_of_january : RecurrenceRule
days_of_january = record (plain Daily 1) { by_month = listed (1 ∷ []) }

-- FREQ=MONTHLY;BYDAY=..;BYSETPOS=..
abbrev pub at_position : ℤ → List NthWeekday → RecurrenceRule
at_position n entries = record (on_weekdays Monthly entries) { by_set_position = listed (n ∷ []) }

-- FREQ=MONTHLY;BYDAY=TU,WE,TH;BYSETPOS=3
abbrev pub third_of_three : RecurrenceRule
third_of_three = at_position (pos 3) (every Tue ∷ every Wed ∷ every Thu ∷ [])

-- FREQ=MONTHLY;BYDAY=MO,TU,WE,TH,FR;BYSETPOS=-2
abbrev pub last_work_day_but_one : RecurrenceRule
last_work_day_but_one = at_position (neg_ℤ (pos 2)) (every Mon ∷ every Tue ∷ every Wed ∷ every Thu ∷ every Fri ∷ [])

-- each part with the least and the greatest number that it may have
abbrev pub widest : RecurrenceRule
widest = record {
  frequency = Yearly;
  interval = 1;
  week_start = Mon;
  by_month = listed (1 ∷ 12 ∷ []);
  by_week_number = listed (neg_ℤ (pos 53) ∷ pos 53 ∷ []);
  by_year_day = listed (neg_ℤ (pos 366) ∷ pos 366 ∷ []);
  by_month_day = listed (neg_ℤ (pos 31) ∷ pos 31 ∷ []);
  by_weekday = listed (nth (neg_ℤ (pos 53)) Mon ∷ nth (pos 53) Mon ∷ []);
  by_hour = listed (0 ∷ 23 ∷ []);
  by_minute = listed (0 ∷ 59 ∷ []);
  by_second = listed (0 ∷ 60 ∷ []);
  by_set_position = listed (neg_ℤ (pos 366) ∷ pos 366 ∷ []);
}
