-- Lemmas for the crates above.
pub use Rattle.gregorian.proofs.ForCallers.{floors, year_step, days_at_least, days_at_most, starts_rise, own_start_in_range, lies_in, one_year, floor_mod_parts}
pub use Rattle.gregorian.proofs.ForCallers.{gap_of, leap_day, leap_at_most, months_early, months_late, month_bounds, months_step, months_rise, months_all}
pub use Rattle.gregorian.proofs.ForCallers.{place_is, date_lies, number_at, date_is, date_only, day_of_year_is, weekday_later, weekday_below}
pub use Rattle.naive_base.proofs.{Ranges.{date_in_years, inner_date, in_range_or_not}, Values.{same_date, same_time, same_reading}}
pub use Rattle.naive_base.proofs.Moves.{moved-plain, moved-leap, moved_leap-within, moved_leap-behind, total-moved, moved-difference}
pub use Rattle.naive_base.proofs.Since.{first_not_after, later_not_before, months_reached, months_rise_with}
