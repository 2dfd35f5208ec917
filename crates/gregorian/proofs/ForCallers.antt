-- Lemmas for the crates above.
pub use Rattle.gregorian.proofs.Floor.{floors}
pub use Rattle.gregorian.proofs.YearLaws.{year_step, days_at_least, days_at_most, starts_rise, own_start_in_range, lies_in, one_year, floor_mod_parts, gap_of}
pub use Rattle.gregorian.proofs.MonthDays.{leap_day, leap_at_most, months_early, months_late, month_bounds}
pub use Rattle.gregorian.proofs.DateLaws.{months_step, months_rise, months_all, place_is, date_lies, date_between, number_at, date_is, date_only}
pub use Rattle.gregorian.proofs.{DateLaws.{day_of_year_is}, WeekdayLaws.{weekday_later, weekday_below, one_thursday}}
