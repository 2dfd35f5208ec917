-- The words that this crate's proofs cite, passed on from std, from the crates below and from specs/.
pub use Rattle.std.proofs.Common.{unsigned_abs, Err, IsTrue, MatchResult, None, Ok, Option, Result, SFits, Some, negsuc, of_calls, ◌<◌, ◌↔◌}
pub use Rattle.std.proofs.lemmas.Fmt.{contents_after_writes}
pub use Rattle.std.specs.Fmt.{DisplaysOnOk, WritesOnOk, WritesText, ◌++?◌}
pub use Rattle.std.specs.declared.fmt.Error.{Error}
pub use Rattle.std.specs.declared.fmt.Formatter.{Formatter}
pub use Rattle.offset_core.proofs.ForCallers.{HasOneValue, HoldsOfTaken, and_then_told, map_around, map_outcome, map_taken, one_offset, one_outcome}
pub use Rattle.offset_core.proofs.ForCallers.{one_wall_answer, taken_holds, taken_of_images}
pub use Rattle.offset_core.specs.Around.{HoldsOfEachAround, Takes, taken_of}
pub use Rattle.offset_core.specs.FixedOffset.{seconds_of}
pub use Rattle.offset_core.specs.LocalResult.{IsAndThen, all_or_none, map_of, single_of}
pub use Rattle.offset_core.specs.Offset.{IsWithinDay}
pub use Rattle.offset_core.specs.WallAnswer.{IsNeverShown, IsShownBetween, IsShownOnce, IsWallAnswer}
pub use Rattle.offset_core.specs.declared.around.Around.{Around}
pub use Rattle.offset_core.specs.declared.around.Taken.{Taken}
pub use Rattle.offset_core.specs.declared.choice.Choice.{Choice}
pub use Rattle.offset_core.specs.declared.local_result.LocalResult.{LocalResult}
pub use Rattle.naive_base.proofs.ForCallers.{in_range_or_not, inner_date}
pub use Rattle.naive_base.proofs.Words.{IsDateOn, IsEarlier, IsInRange, IsSome, IsWide, IsWideDay, List, MatchOption, Reading, SomeIff, ap, arith, by_lt_z}
pub use Rattle.naive_base.proofs.Words.{date_is, day_at, day_of, day_of_year_is, floor_div, floors, inl, inr, ints, neg_ℤ, number_at, of_z, option_map, pos}
pub use Rattle.naive_base.proofs.Words.{reading, reading_text, refl, rules, subst, suc, sym, to_z, to_z-of_z, w32, w64, weekday_number, zero, ℕ, ℤ, [], ◌*ℤ◌}
pub use Rattle.naive_base.proofs.Words.{◌++◌, ◌+ℤ◌, ◌-ℤ◌, ◌<ℤ◌, ◌∙◌, ◌∷◌, ◌≡◌, ◌≤ℤ◌, ◌⊎◌}
unfoldable pub use Rattle.naive_base.proofs.Words.{day_number, day_of_month, month_of, year_of}
pub use Rattle.naive_base.specs.Clock.{clock_second}
pub use Rattle.naive_base.specs.Fields.{IsDaysLater, IsGiven}
pub use Rattle.naive_base.specs.Range.{first_day, last_day}
pub use Rattle.naive_base.specs.Reading.{behind}
pub use Rattle.naive_base.specs.Stamp.{of_secs}
pub use Rattle.naive_base.specs.declared.date.NaiveDate.{NaiveDate}
pub use Rattle.zoned_time.specs.Choice.{AreOffsetsAround, IsBeforeGap, IsOffsetBeforeGap, IsResolved, IsTaken, IsUnresolved, offset_taken, out_of_range}
pub use Rattle.zoned_time.specs.Choice.{refused}
pub use Rattle.zoned_time.specs.DateTime.{home_law_of, wall_of, zoned}
pub use Rattle.zoned_time.specs.DayEnds.{AreStartsOfDays, HasNoEnd, IsEndOfDay, IsGapEnd, IsZonedEnd, NonePassed, first_day_of_year, first_of_month}
pub use Rattle.zoned_time.specs.Days.{AreEndsOfDay, AreInstantsOfDay, HasReached, IsFirstInstantFrom, IsFirstOutOfRange, IsFirstToReach, IsInDay, IsInstantFrom}
pub use Rattle.zoned_time.specs.Days.{IsFirstSecondOutOfRange, IsNeverOnDay, IsNoDay, IsOnDay, IsZonedAtOrAfter, IsZonedFirst, midnight}
pub use Rattle.zoned_time.specs.Relocal.{IsOnlyWhere}
pub use Rattle.zoned_time.specs.Zone.{IsReachedAt}
pub use Rattle.zoned_time.specs.Steps.Passed.{HasPassed}
pub use Rattle.zoned_time.specs.Zone.{IsOffsetStretch}
pub use Rattle.zoned_time.specs.Relocal.{AreInstantsOf, HasInstant, IsRelocal, SingleIff, instant_of}
pub use Rattle.zoned_time.specs.Stamps.{in_utc}
pub use Rattle.zoned_time.specs.Zone.{AreOffsetsFor, Each, IsFixed, IsOffsetAt, IsZoneSecond, Law, Meaning, SameLaw, SameOffsets, ShowsByOffset, home_law}
pub use Rattle.zoned_time.specs.Zone.{law_by_seconds, meaning_by_seconds, seconds_alone}
pub use Rattle.zoned_time.specs.Zoned.{IsAt, IsAtInRange, Zoned, in_seconds, local_of, shown}
pub use Rattle.offset_core.specs.declared.resolve_error.ResolveError.{ResolveError}
pub use Rattle.zoned_time.specs.declared.utc.Utc.{Utc}

-- the laws of numbers without a sign and with one
pub ruleset numbers = (arith, ints)

-- a number that fits a width is its bits there, read back
pub ruleset casts = (arith, to_z-of_z)
