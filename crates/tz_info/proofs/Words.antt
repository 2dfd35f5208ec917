-- The words that this crate's proofs cite, passed on from std, from the crates below and from specs/.
pub use borrow.Author.Count.{below_more}
pub use mir.Syntax.{w128}
pub use Rattle.naive_base.proofs.{
  ForCallers.{date_lies, days_at_most, leap_at_most, months_all, months_step, own_start_in_range},
  Words.{FitsSigned, IsWide, LiesIn, MatchOption, append_assoc, by_lt_z, day_of, day_of_year_is, days_at_least, days_in_month, days_in_year, floor_div},
  Words.{floor_mod, floor_mod_parts, floors, is_leap, length-append, lies_in, nat_tests, neg_ℤ, one_year, starts_rise, subst, to_z, unsigned_abs},
  Words.{w32, weekday_below, weekday_later, weekday_of, year_step, ◌%◌, ◌*ℤ◌, ◌++◌},
}
pub use Rattle.naive_base.specs.Year.{IsDay}
pub use Rattle.offset_core.proofs.ForCallers.{one_around, one_wall_answer}
pub use Rattle.offset_core.specs.{
  LocalResult.map_of,
  Offset.IsWithinDay,
  WallAnswer.{IsNeverShown, IsShownOnce, IsWallAnswer},
  declared.{around.Around.Around, local_result.LocalResult.LocalResult},
}
pub use Rattle.std.proofs.{
  Common.{All, AllPairs, Contains, Err, IfErr, IfOk, IfSome, IsTrue, MatchResult, None, Ok, Option, Result, Some, add-one, length-take, nat_le, nat_lt},
  Common.{not, slice_get, vec_capacity, vec_len, ⊎_elim, ◌&&◌, ◌==◌, ◌↔◌},
  Math.{ListN.{get_or-eq_default}, Seq.{take-append_seam, take-suc}},
  lemmas.Bool.{and_parts, false≢true, Decides.{Decides-and, Decides-eqb, Decides-ltb, Decides-or}},
  lemmas.List.{append-nil, drop-drop, get_or-map, get_or-map as mapped_at, get_or_append_left, get_or_default, get_or_push, length-drop, length_push},
  lemmas.List.{nil_from_length, take-append-drop, take_all, take_more},
  lemmas.List.Elements.{All-append, All-contains, All-push, Contains-append_left, Contains-append_right, Contains-get_or, Contains-push, Contains-push_cases},
  lemmas.List.{Kept.{AllPairs-cons}, Quantifiers.all_pairs_push, Sorted.{IsPartitionPoint-from_clause}, Sums.{count_by-le-length, length-filter}},
  lemmas.{Option.{none-some, slice_get-get_or, slice_get_read}, Result.err_from_is_err_and, Slice.Eq.{slice_eq-Decides}},
  lemmas.Str.{IsUtf8-from_is_utf8, is_utf8-from_IsUtf8},
}
pub use Rattle.std.specs.{
  Bool.{Decides, nat_eq},
  Borrow.Bor,
  Char.is_ascii_whitespace,
  Int.saturate_signed,
  List.{AllAdjacentBelow, list_all, list_any, starts_with},
  Option.option_eq,
  Result.{IsErrAnd, IsOkAnd},
  Str.{IsAsciiWhitespaceBelow, IsAsciiWhitespaceFrom, IsTrimAscii, IsTrimAsciiStart, IsUtf8},
}
pub use Rattle.tz_base.proofs.{
  ForCallers.{Decided, IsExact, apart, choice, done, drop_front, either, exact_cut, false_unless},
  ForCallers.{fault_low, fault_once, guard, lawful, like, made, refused, runs_are, said, tested, type_exact, value_once},
}
pub use Rattle.tz_base.specs.{
  Errors.{IsOutOfMemory, error_number},
  Fronts.{Gives, after_run, ◌>>=◌},
  Grammar.{Exact, Spells, checked, read},
  LocalTypes.{IsUtOffset, LocalType, expected_of_type},
  Names.{IsNameOrNone, expected_of_name},
  Steps.TextTests.{is_name, is_name_or_none, name_or_none_decided, name_test},
  Refusals.LocalTimeType,
  declared.{change.Change.Change, error.Error.Error, span.Span.Span},
}
pub use Rattle.tz_search.proofs.{DigitLaws.{digits-le, digits-more}, FirstItems.{filter_first, le_false, le_is, le_true, lt_false, lt_true, rises}}
pub use Rattle.tz_search.proofs.SearchSteps.{first_come, times_ordered}
pub use Rattle.tz_search.proofs.Words.{AreOrdered, ArePassed, Bool, Counts, IsLastOf, List, SFits, [], add-suc, add-zero, ap, arith, cases_eq, cases_lt, cond}
pub use Rattle.tz_search.proofs.Words.{count_by, drop, false, filter, get_or, inl, inr, int_le, int_lt, ints, length, length-map, length-set, linear, map}
pub use Rattle.tz_search.proofs.Words.{option_map, pos, refl, rules, slice_index, suc, sum_by-cons, sym, take, to_z-of_z, true, w64, zero, ℕ, ℤ, ◌*◌, ◌+ℤ◌, ◌+◌}
pub use Rattle.tz_search.proofs.Words.{◌-ℤ◌, ◌-◌, ◌/◌, ◌<ℤ◌, ◌<◌, ◌∙◌, ◌∷◌, ◌≡◌, ◌≢◌, ◌≤ℤ◌, ◌≤◌, ◌⊎◌}
pub use Rattle.tz_info.specs.{
  Around.AreTypesAround,
  Changes.{AreChanges, HasNoChange, IsChange, IsFirst, IsFirstChange, IsFromUntil, IsLast, IsLastChange, IsNearest, IsNearestChange, Precedes},
  Differences.{AreDifferences, IsDifference, IsInDifference},
  Folds.HasFold,
  Gaps.{HasGap, IsTypeBeforeGap},
  Leaps.{AreCounted, AreLeapSeconds, IsLeapTime, IsLeapTimeRefused, IsNear, IsNextLeap, IsOneStep, IsUnixTime, IsUnixTimeRefused, correction_at},
  Leaps.{correction_before, corrections, least_time, passed_count, thresholds},
  Lists.last_else,
  Looks.RoseByWalk,
  Moments.{AlternateAt, IsAlternateRefused, IsBetween, IsDstAt, IsInSomeYear, IsRuleTime, IsRuleYear, IsYearOf, NeverChanges, end_in, start_in, type_when},
  OffsetChanges.{IsNearestOffsetChange, IsOffsetChange, KeepsOffset},
  PosixZones.{IsPosixFault, IsPosixZone, posix_zone},
  Questions.{IsAskedAt, IsAskedAtEach, IsAskedFor, IsByRuleFor},
  RuleDays.{IsDayOf, IsRuleDay, IsWeekdayInWeek},
  RuleTypes.{IsRule, IsRuleRefused, RuleAt},
  Rules.{Alternate, IsAlternateRule, IsWithinWeek},
  ShownSeconds.{AreEndsWithin, AreShownWithin, IsFirstAtOrAfter, IsNeverWithin, ShowsAtOrAfter, ShowsWithin},
  Spans.{IsInSpan, IsOutOfForce, IsSince, IsSpan, IsSpanAt, IsUntil},
  Steps.{Answers.{joined}, Asked.IsAskedAtLeapTime},
  Steps.{AskedYears.{AreFrom, HasNoneBeyond, IsCalmRule, IsYearNear, turn_of}, Below.all_below},
  Steps.Beside.{IsNearestMomentOf, IsSecondOfNearest},
  Steps.ChangeLists.{all_fit, change_between, change_here, changes_in, is_second, rule_type, rule_type_or},
  Steps.ChangeLists.type_at_leap_time,
  Steps.Changes.{IsAhead, IsBegin, IsChangeByRule, IsEarlierOf, IsIdle, IsInStretch, IsInTable, IsLaterOf, IsOfYear, IsOneOf, IsStretchAhead},
  Steps.Changes.{near_end, nearer_one, new_year, year_at},
  Steps.{Differences.{AreListedTo, IsListedIf, IsPairUntil}, Extremes.{AreExtremes, AreJoined, AreJoinedByRule, offsets_of}},
  Steps.FileLists.{IsFaultAt, zone_of_lists},
  Steps.{Gaps.{AreLess, HasReach, IsNeverFrom, IsRuleGap}, Kinds.{day_time_second, is_calm, is_calm_kind, kind_place, second_in}},
  Steps.{LastSpans.IsLastSpan, Merging.{IsMerged, IsNext, IsStep}},
  Steps.Pieces.{AreBelow, AreCutsCrossed, AreListed, ArePieces, ArePiecesAt, IsCutAt, IsJump, IsSegment, cut_of, zone_in},
  Steps.RuleDays.{closed_day_is, julian_is, julian_place, number_after, weekday_at, weekday_is, weekday_place},
  Steps.RuleSeconds.{AreUtOffsets, IsAskedFrom, IsAskedSince, IsSecondFrom, TypeFrom},
  Steps.Runs.{AreWithin, HaveOneTypeFrom, IsEnd, IsEndWithin, IsNextRun, IsRunUntil, IsWindowOf, IsWithinRun},
  Steps.{Seasons.{IsAmidFrom, IsDecidedIn, IsSeason, IsSeasonFor, IsSeasonIn, IsSeasonOf}, Segments.{Stands, begin_of, index_of, table_count, table_count_by}},
  Steps.{Shown.together, Starts.{HaveCome, leap_time_at}, Turns.{is_between, is_dst_by_one, is_in_three}},
  Steps.Typed.{IsBeginBy, IsEndBy, IsFirstTyped, IsLastTimed, IsLastTyped, IsTyped},
  Steps.Walk.{IsAskedLast, IsShownIn, IsTried, TypeIn},
  Steps.WallPieces.{AreInOrder, IsBegun, IsBegunNear, IsIndex, IsShownAmong, IsSideAmong, IsStart, IsTable, IsTableAnswer, IsTableLess},
  Steps.WallPieces.{ListedAmong, ShownAmong, WallIndex, answer_at, answer_before, place_at, shown_indexes, top_of},
  Transitions.{AreRising, AreTransitions, passed},
  TzFiles.{In_file, IsFileFault, IsTzFile, IsZoneFault, No_memory, Not_spelled, Not_valid},
  TzGrammar.{IsTextFault, IsTzText, is_letter, is_not_greater, named_type},
  WallClocks.{AreShown, IsAmongShown, Shows},
  Windows.{IsGreatest, IsLeast, IsWindow, IsWindowCount, come_between, offsets, rule_offsets},
  ZoneEquality.zone_eq,
  Zones.{Agrees, HasType, IsBeforeLast, IsFromLast, IsRefusedBy, IsRuleOrNone, IsTypeError, IsTypeOf, IsTypeRefused, IsValid, ListFault, No_type, Not_rising},
  Zones.{Other_index, Other_leaps, Other_rule, RuleOrElse, RuleOrType, TypeAt, TypeAtLeapTime, Zone, by_leap_time, by_rule, index_at, last_transition},
  Zones.{plain_zone, type_error, zone_of_rule},
  declared.file.reader.Lists.{Lists},
  declared.rule.{day.{DayForm.DayForm, DayTime.DayTime}, season.Season.Season, transition_rule.TransitionRule.TransitionRule},
  declared.zone.ask.{all_changes.Changes.Changes, differences.Difference.Difference, shown_seconds.ShownSeconds.ShownSeconds},
  declared.zone.made.extremes.Extremes.{Extremes},
  declared.zone.{made.{last_span.LastSpan.LastSpan, pieces.Piece.Piece, segments.Segment.Segment, shown.Shown.Shown}, time_zone.TimeZone.TimeZone},
}
pub use Rattle.tz_search.specs.{Counts.{RoseWithin}, RisingCounts.{reads_more}}
pub use Rattle.tz_file.specs.FileBlocks.{Parts}
pub use Rattle.tz_file.specs.FileContents.{designation_of, file_time, is_not_zero, leap_at, leap_second_of, least_offset, pair_test, record_at, transition_at}
pub use Rattle.tz_file.specs.{FileContents.{values_below}, FileHeaders.{magic}}
pub use Rattle.tz_file.specs.FilePieces.{FilePieces, HasCounts, HasPieces, footer_bytes, from_leap_seconds, from_times, from_type_indexes, from_types}
pub use Rattle.tz_file.specs.{FilePieces.{from_ut_local}, FileLists.{AreFromParts, EndFile, HasLengths, IsReadInMemory, pieces_of}}
pub use Rattle.tz_file.specs.declared.{pieces.FileCounts.{FileCounts}, header.Version.{Version}}
pub use Rattle.tz_base.specs.{Trims.{without_end}, declared.{leap_second.LeapSecond.{LeapSecond}, transition.Transition.{Transition}}}
unfoldable pub use Rattle.naive_base.proofs.Words.{day_number, days_of_months, year_of, year_start}
unfoldable pub use Rattle.tz_base.specs.Fronts.{exact_at}
unfoldable pub use Rattle.tz_search.proofs.Words.{digits}
unfoldable pub use Rattle.tz_info.specs.{
  ChangesLeft.changes_left,
  Moments.moment,
  RuleDayOf.rule_day,
  Steps.{ChangeLists.{changes_of, seconds_between, type_or_none}, Changes.moments_near},
  Steps.{KindPlaces.{place_by, places_by_kind}, Spelled.rule_in},
  Steps.{Kinds.{are_calm, margin_of, seconds_by_kind}, RuleDays.closed_day, Segments.segment_of},
  TzGrammar.{alternate, date, day, days, dst_offset, duration, end, fixed, given_offset, julian_date, month_date, named, next_hour, offset, optional_time},
  TzGrammar.{rule, text, time},
}
unfoldable pub use Rattle.tz_file.specs.{FileBlocks.{block}, FilePieces.{after_first_block, file, first_version, later_version}}
unfoldable pub use Rattle.tz_base.specs.Trims.{trimmed}
