-- The words that this crate's proofs cite, passed on from std, from the crates below and from specs/.
pub use Rattle.std.proofs.Common.{FitsSigned, List, ap, append_assoc, arith, false, inl, inr, length, length-append, min, neg_ℤ, of_z, pos, refl, rules, subst}
pub use Rattle.std.proofs.Common.{suc, sym, to_z, to_z-of_z, true, unsigned_abs, w64, zero, get_or, drop, ℕ, ℤ, [], ◌%◌, ◌*ℤ◌, ◌*◌, ◌++◌, ◌+ℤ◌, ◌+◌, ◌-ℤ◌, ◌-◌}
pub use Rattle.std.proofs.{Common.{◌/◌, ◌<ℤ◌, ◌<◌, ◌^◌, ◌∙◌, ◌∷◌, ◌≡◌, ◌≤ℤ◌, ◌≤◌, ◌⊎◌}, Props.{props}, lemmas.Bool.Decides.{nat_tests}}
pub use Rattle.std.proofs.lemmas.{Fmt.{decimal_digit, decimal_step}, Int.{by_lt_z, ints}}
pub use Rattle.std.specs.{Fmt.{decimal}, Int.{w32}, Prelude.{IsSome, MatchOption, None, Option, Some, SomeIff, option_map}}
pub use Rattle.gregorian.proofs.ForCallers.{date_between, date_is, date_only, day_of_year_is, days_at_least, floor_mod_parts, floors, lies_in, month_bounds}
pub use Rattle.gregorian.proofs.ForCallers.{number_at, one_thursday, one_year, starts_rise, weekday_below, weekday_later, year_step}
pub use Rattle.gregorian.specs.{Date.{IsDate}, Month.{days_in_month}, Weeks.{IsThursdayOf}, Year.{LiesIn, days_in_year, floor_div, floor_mod, is_leap}}
pub use Rattle.naive_base.specs.{Fields.{IsMonthsLater, month_after}, IsoWeek.{IsWeekOf, iso_number, iso_year}}
pub use Rattle.naive_base.specs.{Months.{month_of_number, months_of, year_of_number}, NaiveDate.{IsDateOf, IsDateOfDay, IsDateOn, day_of}}
pub use Rattle.naive_base.specs.{NaiveDateTime.{IsReadingOnDay, day_shown_by, reading}, NaiveTime.{fraction_of, second_of}}
pub use Rattle.naive_base.specs.Named.{IsDayOfIsoWeek, IsThursdayOfWeek, IsWeekdayOfMonth, is_earlier_in_year, whole_years}
pub use Rattle.naive_base.specs.Range.{IsDayInRange, IsInRange, IsInnerDay, IsInnerYear, IsReading, IsTime, IsWide, IsWideDay, IsWideYear, IsYearInRange}
pub use Rattle.naive_base.specs.Reading.{IsEarlier, Reading, day_at, difference, leap_between, moved, moved_leap, of_total, reading_at, second_at, total}
pub use Rattle.naive_base.specs.{Text.{date_text, four_digits, fraction_text, reading_text, time_text}, Weekday.{weekday_number, weekday_of}}
pub use Rattle.naive_base.specs.declared.{date.NaiveDate.{NaiveDate}, datetime.NaiveDateTime.{NaiveDateTime}, iso_week.IsoWeek.{IsoWeek}}
pub use Rattle.naive_base.specs.declared.{time.NaiveTime.{NaiveTime}, weekday.Weekday.{Weekday}}
unfoldable pub use Rattle.offset_core.specs.Digits.{in_digits}
unfoldable pub use Rattle.gregorian.specs.{Date.{day_number}, DateOf.{day_of_month, day_of_year, month_of, year_of}, Month.{days_of_months}, Year.{year_start}}
unfoldable pub use Rattle.naive_base.specs.Text.{year_text}
