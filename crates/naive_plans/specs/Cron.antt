-- Which local times match a line of a crontab.
use Rattle.std.specs.Prelude.{◌≡◌, ◌⊎◌, ℕ, ◌/◌, ◌%◌, ℤ, Bool, true, false, IsTrue, get_or}
use Rattle.gregorian.specs.{DateOf.{month_of, day_of_month}, Weekdays.{weekday_of}}
use Rattle.naive_plans.specs.declared.cron.Cron.{Cron}

-- of a date's day of the month and its weekday, both match, or with `true` at least one does
abbrev pub IsListed : Bool → Type 0 → Type 0 → Type 0
IsListed true month week = month ⊎ week
IsListed false month week = month × week

-- the date of the day matches: its month is listed, and so is its day of the month or its weekday
pub record IsCronDay (c : Cron) (day : ℤ) : Type 0 where
  pub month : IsTrue (get_or c.months (month_of day) false)
  pub listed : IsListed c.either (IsTrue (get_or c.days (day_of_month day) false)) (IsTrue (get_or c.weekdays (weekday_of day) false))

-- the minute of the day matches: its hour and its minute of the hour are listed
pub record IsCronMinute (c : Cron) (minute : ℕ) : Type 0 where
  pub in_hour : IsTrue (get_or c.hours (minute / 60) false)
  pub in_minute : IsTrue (get_or c.minutes (minute % 60) false)

-- the second of the day matches: it begins a minute that matches, on a date that does
pub record IsCronTime (c : Cron) (day : ℤ) (second : ℕ) : Type 0 where
  pub on : IsCronDay c day
  pub whole : (second % 60) ≡ 0
  pub at : IsCronMinute c (second / 60)
