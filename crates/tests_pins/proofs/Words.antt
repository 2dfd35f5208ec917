-- The words that this crate's proofs cite, passed on from std, from the crates below and from specs/.
pub use Rattle.std.proofs.{Common.{Err, None, Ok, Some}, lemmas.{Int.{fits_signed_from_abs}, Str.Ascii.{IsAscii-cons, IsAscii-nil}}}
pub use Rattle.std.specs.{Int.{from_be_bytes}, Prelude.{Option, Result, ◌%◌}}
pub use Rattle.offset_core.specs.declared.{choice.{FoldChoice.{FoldChoice}, GapChoice.{GapChoice}}, resolve_error.ResolveError.{ResolveError}}
pub use Rattle.naive_base.proofs.Words.{IsDate, IsThursdayOf, IsWeekOf, date_only, iso_number, iso_year, date_is, is_leap, ◌-◌}
pub use Rattle.naive_base.specs.{Range.{first_second, last_second}, declared.iso_week.IsoWeek.{IsoWeek}}
pub use Rattle.tz_base.specs.{LocalTypes.{plain_type}, declared.{change.Change.{Change}, error.Error.{Error}}}
pub use Rattle.tz_info.proofs.Words.{AreLeapSeconds, Contains, IsAskedAt, IsAskedFor, IsByRuleFor, IsChange, IsFromUntil, IsNextLeap, IsOneStep, IsSpanAt}
pub use Rattle.tz_info.proofs.Words.{IsTextFault, IsYearOf, LiesIn, add-one, days_at_least, one_year, weekday_of, year_step}
pub use Rattle.tz_info.specs.Questions.{IsByRule}
pub use Rattle.tz_file.specs.declared.header.{Counts.{Counts}, Place.{Place}, Version.{Version}}
pub use Rattle.tz_info.specs.declared.rule.transition_rule.TransitionRule.{TransitionRule}
pub use Rattle.tz_base.specs.declared.leap_second.LeapSecond.{LeapSecond}
pub use Rattle.zoned_time.proofs.Words.{IsEarlier, IsFirstInstantFrom, IsGiven, day_at, day_of_year_is, IsFirstToReach}
pub use Rattle.zoned_time.proofs.Words.{IsReachedAt}
pub use Rattle.zoned_plans.specs.Fires.{AreFires, IsFire, IsNextFire}
pub use Rattle.zoned_time.specs.Years.{IsEarlierInYear, IsWholeYears}
pub use Rattle.demo_own_zone.proofs.Words.{IsShownBetween, ShowsByOffset, midnight}
pub use Rattle.zoned_ref.proofs.Words.{AreEndsOfDay, IsBeforeGap, IsNeverOnDay, lies_in, ◌*ℤ◌}
pub use Rattle.tz_write.proofs.Words.{AreInPairs, AreShortest, HasPieces, IsNamedIn, IsTzText, IsWrittenText, IsWrittenZone, Parts}
pub use Rattle.tz_write.proofs.Words.{counts_test, false≢true, magic, unsigned_abs, ◌/◌, ◌<ℤ◌, ◌≤ℤ◌}
pub use Rattle.zonedump_lib.proofs.CitedWords.{AreChanges, TypeAt, floors, ◌+ℤ◌}
pub use Rattle.zoneq_lib.proofs.CitedWords.{Asks, Bool, IsBadLine, IsPosixZone, IsTaken, IsTzFile, IsZoneSecond, List, LocalType, Query, Reading, Spells, Zone}
pub use Rattle.zoneq_lib.proofs.CitedWords.{Zoned, ap, arith, behind, by_lt_z, codes, false, get_or, inl, inr, ints, lawful, length, neg_ℤ, of_secs, pos, read}
pub use Rattle.zoneq_lib.proofs.CitedWords.{refl, subst, suc, sym, true, w32, w64, zero, ℕ, ℤ, [], ◌*◌, ◌++◌, ◌+◌, ◌-ℤ◌, ◌<◌, ◌∙◌, ◌∷◌, ◌≡◌, ◌≤◌, ◌⊎◌}
pub use Rattle.tests_pins.specs.{Changes.{autumn, change_at, spring}, Choices.{half_past, refuse, set_back, set_forward}, Days.{AreSetAt}}
pub use Rattle.tests_pins.specs.{Fields.{given, itself}, Files.{long_record, one_leap_second, short_record, with_leap_second}}
pub use Rattle.tests_pins.specs.Honolulu.{counts, designations, file_with, honolulu_file, hst_footer, long_times, parts, pieces, short_file, short_times}
pub use Rattle.tests_pins.specs.{Honolulu.{type_indexes, type_records}, LeapSeconds.{entry, utc_leaps}, NewYork.{edt, est, new_york_rule, new_york_zone}}
pub use Rattle.tests_pins.specs.{Spans.{winter}, Texts.{new_york_long, new_york_text, utc_rule, utc_text}, Zones.{change, honolulu, hst, hst10}}
pub use Rattle.tests_pins.specs.Plans.{twice_daily}
unfoldable pub use Rattle.json.specs.Print.{escape_byte, print_from}
unfoldable pub use Rattle.std.specs.Fmt.{digits}
unfoldable pub use Rattle.naive_base.proofs.Words.{day_of_year, in_digits, year_text}
unfoldable pub use Rattle.tz_info.proofs.Words.{closed_day, days_of_months, rule, text, year_start}
unfoldable pub use Rattle.tz_info.specs.TzGrammar.{seconds}
unfoldable pub use Rattle.zoned_time.proofs.Words.{day_number, day_of_month, month_of}
unfoldable pub use Rattle.zoned_ref.proofs.Words.{year_of}
unfoldable pub use Rattle.tz_write.proofs.Words.{after_first_block, be_u32, block, file, first_version, header, signed, six_counts, tzif, version, version_1}
unfoldable pub use Rattle.zonedump_lib.specs.{Words.{clock_words, offset_words, step_words}, ZdumpLines.{short_day, short_month, short_weekday}}
unfoldable pub use Rattle.zoneq_lib.proofs.CitedWords.{exact_at, optional_tag_at, query_line}
unfoldable pub use Rattle.zoneq_lib.specs.Questions.{choice}
