-- Runs of days and of weeks.
use Rattle.std.specs.Prelude.{ℕ, ◌/◌, ℤ, ◌-ℤ◌, int_lt, if◌then◌else◌, unsigned_abs}
use Rattle.naive_base.specs.{Range.{first_day, last_day}, NaiveDate.{day_of}, declared.date.back.NaiveDateDaysBack.{NaiveDateDaysBack}}
use Rattle.naive_base.specs.declared.date.{back.NaiveDateWeeksBack.{NaiveDateWeeksBack}, days.NaiveDateDaysIterator.{NaiveDateDaysIterator}}
use Rattle.naive_base.specs.declared.date.days.NaiveDateWeeksIterator.{NaiveDateWeeksIterator}

-- the day of the next date of a run of days, or of weeks
abbrev pub days_from : NaiveDateDaysIterator → ℤ
days_from run = day_of run.value

abbrev pub weeks_from : NaiveDateWeeksIterator → ℤ
weeks_from run = day_of run.value

-- how many days come before the last one in range
abbrev pub days_before_last : ℤ → ℕ
days_before_last day = if int_lt last_day day then 0 else unsigned_abs (last_day -ℤ day)

-- how many dates are left of a run
abbrev pub days_left : NaiveDateDaysIterator → ℕ
days_left run = days_before_last (days_from run)

abbrev pub weeks_left : NaiveDateWeeksIterator → ℕ
weeks_left run = days_before_last (weeks_from run) / 7

-- of runs that go back in time: the day of the next date, how many days come after the first one in range, and how many dates are left
abbrev pub days_back_from : NaiveDateDaysBack → ℤ
days_back_from run = day_of run.value

abbrev pub weeks_back_from : NaiveDateWeeksBack → ℤ
weeks_back_from run = day_of run.value

abbrev pub days_after_first : ℤ → ℕ
days_after_first day = if int_lt day first_day then 0 else unsigned_abs (day -ℤ first_day)

abbrev pub days_back_left : NaiveDateDaysBack → ℕ
days_back_left run = days_after_first (days_back_from run)

abbrev pub weeks_back_left : NaiveDateWeeksBack → ℕ
weeks_back_left run = days_after_first (weeks_back_from run) / 7
