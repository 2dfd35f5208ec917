-- The local times that a rule means, by RFC 5545, section 3.3.10.
use Rattle.std.specs.Prelude.{◌≡◌, ◌≢◌, ◌⊎◌, ℕ, ◌+◌, ◌-◌, ◌*◌, ◌/◌, ◌%◌, ℤ, pos, neg_ℤ, ◌+ℤ◌, ◌-ℤ◌, ◌*ℤ◌, List, Contains, length}
use Rattle.gregorian.specs.{DateOf.{year_of, month_of, day_of_month, day_of_year}, Month.{days_in_month}, Weekdays.{weekday_of}}
use Rattle.gregorian.specs.Year.{days_in_year, floor_div, floor_mod, is_leap}
use Rattle.naive_base.specs.Weekday.{weekday_number}
use Rattle.naive_plans.specs.DayPlans.{IsPlannedOnItsDay}
use Rattle.naive_rrule.specs.declared.rule.Frequency.{Frequency}
use Rattle.naive_rrule.specs.declared.rule.{Frequency.TheVariants.{Yearly, Monthly, Weekly, Daily, Hourly, Minutely, Secondly}, NthWeekday.{NthWeekday}}
use Rattle.naive_rrule.specs.declared.rule.RecurrenceRule.{RecurrenceRule}

-- ---- periods
-- the month that a day lies in, counted from January of the year 0
abbrev pub month_number : ℤ → ℤ
month_number day = year_of day *ℤ pos 12 +ℤ pos (month_of day) -ℤ pos 1

-- the period that a local second lies in, by its number: a year, a month, a week, a day, an hour, a minute or the second itself.
-- Weeks begin on the weekday of that number
abbrev pub period_of : Frequency → ℕ → ℤ → ℤ
period_of Yearly first l = year_of (floor_div l 86_400)
period_of Monthly first l = month_number (floor_div l 86_400)
period_of Weekly first l = floor_div (floor_div l 86_400 +ℤ pos 4 -ℤ pos first) 7
period_of Daily first l = floor_div l 86_400
period_of Hourly first l = floor_div l 3600
period_of Minutely first l = floor_div l 60
period_of Secondly first l = l

-- INTERVAL: the period comes a multiple of it after the start's
pub record Counts (interval : ℕ) (first period : ℤ) : Type 0 where
  pub times : ℕ
  pub is : period ≡ first +ℤ pos (times * interval)

-- ---- parts
-- the rule has no such part
abbrev pub IsAbsent : {X : Type 0} → List X → Type 0
IsAbsent part = length part ≡ 0

-- the part lists that number; or the rule has no such part, and then the number is the start's, if the start determines it
pub record IsListed (part : List ℕ) (tells : Type 0) (start n : ℕ) : Type 0 where
  pub listed : IsAbsent part ⊎ Contains part n
  pub told : IsAbsent part → tells → n ≡ start

-- the part lists the place that has `before` others before it and `after` others after it: 1 is the first one, -1 the last
abbrev pub ListsPlace : List ℤ → ℕ → ℕ → Type 0
ListsPlace part before after = Contains part (pos (before + 1)) ⊎ Contains part (neg_ℤ (pos (after + 1)))

-- an entry of BYDAY is that weekday: each one, or the one at that place
pub record IsEntry (weekday before after : ℕ) (e : NthWeekday) : Type 0 where
  pub same : weekday_number e.weekday ≡ weekday
  pub nth : (e.nth ≡ pos 0) ⊎ (e.nth ≡ pos (before + 1)) ⊎ (e.nth ≡ neg_ℤ (pos (after + 1)))

pub record ListsWeekday (part : List NthWeekday) (weekday before after : ℕ) : Type 0 where
  pub entry : NthWeekday
  pub listed : Contains part entry
  pub is : IsEntry weekday before after entry

-- ---- what the start determines
-- no part but BYMONTH and BYDAY speaks of dates
abbrev pub HasNoNumbers : RecurrenceRule → Type 0
HasNoNumbers r = IsAbsent r.by_week_number.now × IsAbsent r.by_year_day.now × IsAbsent r.by_month_day.now

-- the month, of a yearly rule that has no part for dates
abbrev pub TellsMonth : RecurrenceRule → Type 0
TellsMonth r = (r.frequency ≡ Yearly) × HasNoNumbers r × IsAbsent r.by_weekday.now

-- the day of the month, of a yearly or monthly rule that has no part for dates, but BYMONTH
abbrev pub TellsMonthDay : RecurrenceRule → Type 0
TellsMonthDay r = ((r.frequency ≡ Yearly) ⊎ (r.frequency ≡ Monthly)) × HasNoNumbers r × IsAbsent r.by_weekday.now

-- the weekday, of a weekly rule, and of a yearly one that has weeks and no days
abbrev pub TellsWeekday : RecurrenceRule → Type 0
TellsWeekday r = (r.frequency ≡ Weekly) ⊎ ((r.frequency ≡ Yearly) × (IsAbsent r.by_week_number.now
    → ⊥) × IsAbsent r.by_year_day.now × IsAbsent r.by_month_day.now)

-- the second, where periods are minutes or longer
abbrev pub TellsSecond : RecurrenceRule → Type 0
TellsSecond r = r.frequency ≢ Secondly

-- the minute, where periods are hours or longer
abbrev pub TellsMinute : RecurrenceRule → Type 0
TellsMinute r = (r.frequency ≢ Minutely) × TellsSecond r

-- the hour, where periods are days or longer
abbrev pub TellsHour : RecurrenceRule → Type 0
TellsHour r = (r.frequency ≢ Hourly) × TellsMinute r

-- ---- dates
abbrev pub HasMonth : RecurrenceRule → ℕ → ℕ → Type 0
HasMonth r start month = IsListed r.by_month.now (TellsMonth r) start month

-- a day of the month is one of BYMONTHDAY, by how many days of its month come before it and after it
pub record HasMonthDay (r : RecurrenceRule) (start before after day : ℕ) : Type 0 where
  pub listed : IsAbsent r.by_month_day.now ⊎ ListsPlace r.by_month_day.now before after
  pub told : IsAbsent r.by_month_day.now → TellsMonthDay r → day ≡ start

-- the day is one of BYYEARDAY
abbrev pub IsOnYearDay : RecurrenceRule → ℤ → Type 0
IsOnYearDay r day = IsAbsent r.by_year_day.now ⊎ ListsPlace r.by_year_day.now (day_of_year day) (days_in_year (year_of day) - 1 - day_of_year day)

-- the fourth day of the week that a day lies in: the week is one of that day's year
abbrev pub fourth_of_week : ℕ → ℤ → ℤ
fourth_of_week first day = floor_div (day +ℤ pos 4 -ℤ pos first) 7 *ℤ pos 7 -ℤ pos 1 +ℤ pos first

-- the day's week is one of BYWEEKNO
abbrev pub IsInWeek : RecurrenceRule → ℤ → Type 0
IsInWeek r day = let fourth = fourth_of_week (weekday_number r.week_start) day in
    IsAbsent r.by_week_number.now ⊎ ListsPlace r.by_week_number.now (day_of_year fourth / 7) ((days_in_year (year_of fourth) - 1 - day_of_year fourth) / 7)

-- BYDAY counts weekdays in the year, of a yearly rule without BYMONTH, else in the month
abbrev pub CountsInYear : RecurrenceRule → Type 0
CountsInYear r = (r.frequency ≡ Yearly) × IsAbsent r.by_month.now

-- a day's weekday is one of BYDAY, by how many days of its month come before it and after it
pub record HasWeekday (r : RecurrenceRule) (start day : ℤ) (before after : ℕ) : Type 0 where
  pub in_year : CountsInYear r → IsAbsent r.by_weekday.now
      ⊎ ListsWeekday r.by_weekday.now (weekday_of day) (day_of_year day / 7) ((days_in_year (year_of day) - 1 - day_of_year day) / 7)
  pub in_month : (CountsInYear r → ⊥) → IsAbsent r.by_weekday.now ⊎ ListsWeekday r.by_weekday.now (weekday_of day) (before / 7) (after / 7)
  pub told : IsAbsent r.by_weekday.now → TellsWeekday r → weekday_of day ≡ weekday_of start

-- how many days of its month come after a day
abbrev pub days_left : ℤ → ℕ
days_left day = days_in_month (is_leap (year_of day)) (month_of day) - day_of_month day

-- the rule's parts let the date through
pub record IsOnDate (r : RecurrenceRule) (start day : ℤ) : Type 0 where
  pub month : HasMonth r (month_of start) (month_of day)
  pub month_day : HasMonthDay r (day_of_month start) (day_of_month day - 1) (days_left day) (day_of_month day)
  pub weekday : HasWeekday r start day (day_of_month day - 1) (days_left day)
  pub week : IsInWeek r day
  pub year_day : IsOnYearDay r day

-- ---- times of day
abbrev pub HasHour : RecurrenceRule → ℕ → ℕ → Type 0
HasHour r start second = IsListed r.by_hour.now (TellsHour r) (start / 3600) (second / 3600)

abbrev pub HasMinute : RecurrenceRule → ℕ → ℕ → Type 0
HasMinute r start second = IsListed r.by_minute.now (TellsMinute r) (start / 60 % 60) (second / 60 % 60)

abbrev pub HasSecond : RecurrenceRule → ℕ → ℕ → Type 0
HasSecond r start second = IsListed r.by_second.now (TellsSecond r) (start % 60) (second % 60)

-- ---- the set
-- the rule's parts but BYSETPOS let a second of a day through, for a start at some local second
pub record IsOccasionOn (r : RecurrenceRule) (start day : ℤ) (second : ℕ) : Type 0 where
  pub counts : let first = weekday_number r.week_start in
      Counts r.interval (period_of r.frequency first start) (period_of r.frequency first (day *ℤ pos 86_400 +ℤ pos second))
  pub date : IsOnDate r (floor_div start 86_400) day
  pub hour : HasHour r (floor_mod start 86_400) second
  pub minute : HasMinute r (floor_mod start 86_400) second
  pub at_second : HasSecond r (floor_mod start 86_400) second

abbrev pub IsOccasion : RecurrenceRule → ℤ → ℤ → Type 0
IsOccasion r start = IsPlannedOnItsDay (IsOccasionOn r start)
