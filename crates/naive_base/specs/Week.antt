-- Weeks that begin on a chosen day of the week.
use Rattle.std.specs.Prelude.{ℤ}
use Rattle.naive_base.specs.declared.week.NaiveWeek.{NaiveWeek}

-- the first day of a week
abbrev pub first_of : NaiveWeek → ℤ
first_of week = week.first
