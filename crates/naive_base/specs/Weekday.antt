-- The days of the week, and their numbers.
use Rattle.std.specs.Prelude.{ℕ, ◌+◌, ◌%◌, List, codes}
use Rattle.naive_base.specs.declared.weekday.Weekday.{Weekday, TheVariants.{Mon, Tue, Wed, Thu, Fri, Sat, Sun}}
pub use Rattle.gregorian.specs.Weekdays.{weekday_of}

-- the number of a weekday, 0 for Sunday to 6 for Saturday
abbrev pub weekday_number : Weekday → ℕ
weekday_number Sun = 0
weekday_number Mon = 1
weekday_number Tue = 2
weekday_number Wed = 3
weekday_number Thu = 4
weekday_number Fri = 5
weekday_number Sat = 6

-- the days from the Monday of its week to a weekday
abbrev pub days_from_monday : Weekday → ℕ
days_from_monday weekday = (weekday_number weekday + 6) % 7

-- the first three letters of the weekday's name, which are the text of its `Display`
abbrev pub weekday_text : Weekday → List ℕ
weekday_text Sun = codes "Sun"
weekday_text Mon = codes "Mon"
weekday_text Tue = codes "Tue"
weekday_text Wed = codes "Wed"
weekday_text Thu = codes "Thu"
weekday_text Fri = codes "Fri"
weekday_text Sat = codes "Sat"
