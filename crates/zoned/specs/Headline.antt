-- The headline as one statement: what bytes give, what clocks show, which zones are lawful, and what calls of an instant mean. Each field of
-- an answer, and the field here that says what it is, has the name of the call.
use Rattle.std.specs.Prelude.{◌≡◌, ◌↔◌, ◌⊎◌, ◌<◌, ◌+◌, ◌/◌, ℕ, ℤ, pos, neg_ℤ, List, Bool, Option, Some, option_map, Result, IfOk, IfErr, IfSome, IsSome}
use Rattle.std.specs.{Prelude.{MatchResult, SomeIff, IsTrue, FitsSigned, ⊤, ◌≤ℤ◌}, Int.{w64}, Result.{IsOkAnd}, Duration.{as_nanos}}
use Rattle.offset_core.specs.{FixedOffset.{seconds_of}, LocalResult.{map_of}, Nanoseconds.{FitsTimeDelta}, Offset.{IsWithinDay}, TimeDelta.{nanos_of}}
use Rattle.offset_core.specs.{declared.local_result.LocalResult.{LocalResult}, declared.local_result.LocalResult.TheVariants.{Single, Ambiguous, None}}
use Rattle.offset_core.specs.WallAnswer.{IsWallAnswer}
use Rattle.gregorian.specs.{Date.{IsDate, day_number}, DateOf.{year_of, month_of, day_of_month, day_of_year}}
use Rattle.naive_base.specs.{Clock.{IsClock, clock_second, hour_hand, minute_hand, second_hand}, IsoWeek.{IsWeekOf}, Weekday.{weekday_number, weekday_of}}
use Rattle.naive_base.specs.Fields.{IsGiven, IsDateGiven, IsOrdinalGiven, TimeOfDay, time_at, with_hour, with_minute, with_second, with_fraction}
use Rattle.naive_base.specs.{Months.{days_of, months_of}, NaiveDate.{day_of}, NaiveDateTime.{reading}, NaiveTime.{second_of, fraction_of, time_of}}
use Rattle.naive_base.specs.{Range.{IsInRange, IsWide, IsYearInRange, epoch, first_reading, last_reading}, Stamp.{IsStamp, of_secs}}
use Rattle.naive_base.specs.Reading.{Reading, reading_at, day_at, moved, difference, total, of_total, ahead, behind}
use Rattle.tz_base.specs.{LocalTypes.{LocalType}, declared.error.Error.{Error}, declared.error.Error.TheVariants.{OutOfMemory}}
use Rattle.tz_file.specs.FilePieces.{FilePieces, HasPieces}
use Rattle.tz_info.specs.{Looks.{RoseByInstant, RoseByWalk, RoseByWallClock}, PosixZones.{IsPosixZone, IsPosixFault}}
use Rattle.tz_info.specs.{RuleTypes.{RuleAt, IsRuleRefused}, TzFiles.{IsTzFile, IsFileFault}, TzGrammar.{IsTzText, IsTextFault}, WallClocks.{Shows}}
use Rattle.tz_info.specs.Zones.{Zone, IsValid, TypeAt, IsTypeError}
use Rattle.tz_search.specs.Counts.{Counts}
use Rattle.tz_info.specs.declared.rule.transition_rule.TransitionRule.{TransitionRule}
use Rattle.zoned_time.specs.{declared.datetime.Instant.{Instant}, Choice.{IsOffsetBeforeGap, IsResolved, IsUnresolved}, Relocal.{IsRelocal, instant_of}}
use Rattle.zoned_time.specs.DateTime.{zoned, wall_of, home_law_of, day_shown_by, IsOnlyOnDay, IsOnlyAtTime, IsOnlyMonthsLater, IsOnlyDaysLater}
use Rattle.zoned_time.specs.{DateTime.{IsDaysAdded, IsSetTo, compared}, Stamps.{millis_of, micros_of, of_millis, of_micros, in_utc, IsAtWhere}, Years.{IsYearsSince}}
use Rattle.zoned_time.specs.{Zone.{Meaning, Law, IsOffsetAt, IsZoneSecond, AreOffsetsFor, SameLaw, ShowsByOffset}, Zoned.{IsAt, IsAtInRange, IsFixedFrom}}
use Rattle.zoned_round.specs.{Durations.{IsRoundedTo}, Subseconds.{IsTruncated}, declared.error.RoundingError.{RoundingError}}
use Rattle.zoned_round.specs.Multiples.{multiple_below, nearest_multiple, multiple_above}
use Rattle.zoned_ref.specs.{Offsets.{IsNarrow, AreOffsetsOf}, TimeZoneRef.{off_of, zone_of}, declared.time_zone_ref.TimeZoneRef.{TimeZoneRef}}
use Rattle.zoned.specs.declared.headline.answers.{Answers.{Answers}, Asked.{Asked}, ByClock.{ByClock}, ByInstant.{ByInstant}, ByRule.{ByRule}}
use Rattle.zoned.specs.declared.headline.answers.{ByStamp.{ByStamp}, ByWallClock.{ByWallClock}, Changed.{Changed}, Compared.{Compared}, Fields.{Fields}}
use Rattle.zoned.specs.declared.headline.answers.{InLaw.{InLaw}, InUtc.{InUtc}, InZone.{InZone}, Moved.{Moved}, Named.{Named}, OfParts.{OfParts}}
use Rattle.zoned.specs.declared.headline.answers.{Operated.{Operated}, Parts.{Parts}, Rounded.{Rounded}, Stamps.{Stamps}}
use Rattle.std.specs.declared.fmt.Debug as debug
use Rattle.zoned_time.specs.declared.offset.Offset as offset

-- the second u is the only one, or not before the first and not after the last; of no seconds nothing is said
abbrev pub IsFromFirstToLast : ℤ → LocalResult ℤ → Type 0
IsFromFirstToLast u None = ⊤
IsFromFirstToLast u (Single s) = u ≡ s
IsFromFirstToLast u (Ambiguous s t) = (s ≤ℤ u) × (u ≤ℤ t)

-- What is answered in the one thing that bytes spell. `spells z` says that they spell z, `fault e` that e is their first fault, and
-- `answers z a` that a is right in z; `whole` must hold where memory runs out.
pub record IsAnswerOf {Z A : Type 0} (spells : Z → Type 0) (fault : Error → Type 0) (answers : Z → A → Type 0) (whole : Type 0)
    (answer : Result A Error) : Type 0 where
  -- they spell one thing at most; or they have a fault, which is one, and spell nothing
  pub one : (y z : Z) → spells y → spells z → y ≡ z
  pub one_fault : (d e : Error) → fault d → fault e → d ≡ e
  pub not_both : (z : Z) (e : Error) → spells z → ¬ (fault e)
  -- the answer is right in the thing that they spell; an error is their fault, or says that memory ran out
  pub answered : IfOk answer (λ a. (z : Z) × spells z × answers z a)
  pub refused : IfErr answer (λ e. fault e ⊎ ((e ≡ OutOfMemory) × whole))
  -- if they spell one there is an answer, unless memory runs out; if they have a fault there is an error
  pub spelled : (z : Z) → spells z → MatchResult answer (answers z) (λ e. e ≡ OutOfMemory)
  pub faulty : (e : Error) → fault e → IfOk answer (λ _. ⊥)

-- the file of a valid zone
abbrev pub IsValidFile : List ℕ → Zone → Type 0
IsValidFile bytes z = IsTzFile bytes z × IsValid z

-- the law of a parsed zone: its offset is one function of the second, strictly within a day; it is that of the type in force, and clocks
-- by it show a local time when those by the types do
pub record IsLawOf (z : Zone) (off : ℤ → ℤ) : Type 0 where
  pub offsets : AreOffsetsOf z off
  pub within_day : (u : ℤ) → IsZoneSecond u → IsWithinDay (off u)
  pub clocks : (local : ℤ) → IsWide local → (types : LocalResult LocalType) → IsWallAnswer (Shows (TypeAt z) local) types
      → IsWallAnswer (ShowsByOffset off local) (map_of (λ t. t.offset) types)

-- what `TimeZoneRef::new` answers of a parsed zone: a zone of `DateTime`s, if and only if all of its offsets are strictly within a day. It
-- is that zone, and its law is the law of that zone.
pub record IsReferenceTo (z : Zone) (answer : Option TimeZoneRef) : Type 0 where
  pub some : IsSome answer ↔ IsNarrow z
  pub zone : IfSome answer (λ r. zone_of r ≡ z)
  pub law : IfSome answer (λ r. IsLawOf z (off_of r))

-- no probe
abbrev pub none_yet : Counts
none_yet = record { reads = 0; rule_questions = 0; piece_reads = 0 }

-- the type in force at the second u, or why there is none
pub record AreTypesByInstant (z : Zone) (u : ℤ) (a : ByInstant) : Type 0 where
  pub find_local_time_type : MatchResult a.find_local_time_type (TypeAt z u) (IsTypeError z u)
  pub find_local_time_type_counted : MatchResult a.find_local_time_type_counted (TypeAt z u) (IsTypeError z u)
  pub probes : RoseByInstant z none_yet a.probes

-- the types of the seconds that show the local time, over all seconds of 64 bits
pub record AreTypesByWallClock (z : Zone) (local : ℤ) (a : ByWallClock) : Type 0 where
  pub find_local_time_type_from_local : IsOkAnd a.find_local_time_type_from_local (IsWallAnswer (Shows (TypeAt z) local))
  pub find_local_time_type_from_local_counted : IsOkAnd a.find_local_time_type_from_local_counted (IsWallAnswer (Shows (TypeAt z) local))
  pub probes : RoseByWallClock z none_yet a.probes
  pub find_local_time_type_from_local_by_walk : IsOkAnd a.find_local_time_type_from_local_by_walk (IsWallAnswer (Shows (TypeAt z) local))
  pub walked : RoseByWalk z local none_yet a.walked

-- the zone, and what is answered in it, by the counted lookups within the stated count of probes
pub record IsAnsweredInZone (asked : Asked) (z : Zone) (a : InZone) : Type 0 where
  pub zone : a.zone ≡ z
  pub by_instant : AreTypesByInstant z asked.stamp a.by_instant
  pub by_wall_clock : AreTypesByWallClock z (reading asked.local).s a.by_wall_clock

-- the same of a rule, which is not counted
pub record IsAnsweredByRule (asked : Asked) (r : TransitionRule) (a : ByRule) : Type 0 where
  pub rule : a.rule ≡ r
  pub find_local_time_type : MatchResult a.find_local_time_type (RuleAt r asked.stamp) (λ _. IsRuleRefused r asked.stamp)
  pub find_local_time_type_from_local : IsOkAnd a.find_local_time_type_from_local (IsWallAnswer (Shows (RuleAt r) (reading asked.local).s))

-- a lawful zone: its offset is one function of the second, strictly within a day, and its lookups are right by it; they are asked for
-- the second `utc`, and for the local time `local`
pub record IsLawful {O : Type 0} {m : Meaning O} (law : Law m) (utc local : ℤ) (a : InLaw O) : Type 0 where
  pub within_day : (u : ℤ) → IsZoneSecond u → IsWithinDay (law.off u)
  pub offset_from_utc_datetime : IsOffsetAt law utc a.offset_from_utc_datetime
  pub offset_from_local_datetime : AreOffsetsFor law local a.offset_from_local_datetime
  pub offset_before_gap : IsOffsetBeforeGap law local a.offset_before_gap

-- The records below say what calls answer of the instant d, by its UTC date-time and its offset: of the zone that its offset came from, of
-- another zone, and of another instant e.

-- each offset of the wall clock's answer gives the instant of the date and the time of day that the numbers name, if there are such
pub record IsRelocalIfNamed {Tz O : Type 0} {f : offset.Ghosts O} {g : debug.Ghosts O} {m : Meaning O} (zone : Law m) (a : Asked)
    (answer : LocalResult (Instant Tz O f g)) : Type 0 where
  pub exists : IsYearInRange a.year → IsDate a.year a.month a.day → IsClock a.hour a.minute a.second
      → IsRelocal zone (reading_at (day_number a.year a.month a.day) (clock_second a.hour a.minute a.second) 0) (map_of (λ n. zoned n) answer)
  pub missing : (IsYearInRange a.year → IsDate a.year a.month a.day → IsClock a.hour a.minute a.second → ⊥) → answer ≡ None

-- moved by that many nanoseconds: the UTC date-time moves, and the offset is that of the zone there; there is none if it leaves the range
abbrev pub IsLater : {Tz O : Type 0} {f : offset.Ghosts O} {g : debug.Ghosts O} (m : Meaning O) → Instant Tz O f g → ℤ
    → Option (Instant Tz O f g) → Type 0
IsLater m d by answer = IsAtInRange (home_law_of m d) (moved (zoned d).utc by) (option_map (λ n. zoned n) answer)

-- set to that UTC date-time, with the offset that it has; there is none if that is out of range
abbrev pub IsSet : {Tz O : Type 0} {f : offset.Ghosts O} {g : debug.Ghosts O} → Instant Tz O f g → Reading → Option (Instant Tz O f g) → Type 0
IsSet d utc (Some n) = IsInRange utc.s × IsSetTo d utc n
IsSet d utc _ = IsInRange utc.s → ⊥

-- moved as far as it is from what its clock shows to a multiple of a length; or why it isn't
abbrev pub IsRoundedBy : {Tz O : Type 0} {f : offset.Ghosts O} {g : debug.Ghosts O} (m : Meaning O) → Instant Tz O f g → (ℤ → ℕ → ℤ) → ℤ
    → Result (Instant Tz O f g) RoundingError → Type 0
IsRoundedBy m d choose length answer =
    IsRoundedTo choose (λ error. error) (λ way new. IsAt (home_law_of m d) (moved (zoned d).utc way) (zoned new)) (total (wall_of d)) length d answer

-- From a local time: each offset of the wall clock's answer gives its instant, and a policy selects one of them.
pub record AreByClock {Tz O : Type 0} {f : offset.Ghosts O} {g : debug.Ghosts O} {m : Meaning O} (zone : Law m) (asked : Asked)
    (a : ByClock Tz O f g) : Type 0 where
  pub from_local_datetime : IsRelocal zone (reading asked.local) (map_of (λ n. zoned n) a.from_local_datetime)
  pub and_local_timezone : IsRelocal zone (reading asked.local) (map_of (λ n. zoned n) a.and_local_timezone)
  pub resolve : MatchResult a.resolve (λ n. IsResolved zone (reading asked.local) asked.choice (zoned n))
      (λ error. IsUnresolved zone.off (reading asked.local).s asked.choice error)
  pub with_ymd_and_hms : IsRelocalIfNamed zone asked a.with_ymd_and_hms

-- From a UTC date-time or a timestamp: that UTC date-time, with the offset of the zone there.
pub record AreByStamp {Tz O : Type 0} {f : offset.Ghosts O} {g : debug.Ghosts O} {m : Meaning O} (zone : Law m) (utc : Reading)
    (asked : Asked) (a : ByStamp Tz O f g) : Type 0 where
  pub from_utc_datetime : IsAt zone utc (zoned a.from_utc_datetime)
  pub timestamp_opt : let r = of_secs asked.stamp asked.nanosecond in IsAtWhere zone (IsStamp r) r (map_of (λ n. zoned n) a.timestamp_opt)
  pub timestamp_millis_opt : let r = of_millis asked.stamp in IsAtWhere zone (IsInRange r.s) r (map_of (λ n. zoned n) a.timestamp_millis_opt)
  pub timestamp_micros : let r = of_micros asked.stamp in IsAtWhere zone (IsInRange r.s) r (map_of (λ n. zoned n) a.timestamp_micros)
  pub timestamp_nanos : IsAt zone (of_total asked.stamp) (zoned a.timestamp_nanos)

-- From a UTC date-time and any offset: these. From what the clock of d shows, and its offset: d.
pub record AreOfParts {Tz O : Type 0} {f : offset.Ghosts O} {g : debug.Ghosts O} (d e : Instant Tz O f g) (a : OfParts Tz O f g) : Type 0 where
  pub from_naive_utc_and_offset : zoned a.from_naive_utc_and_offset ≡ record { utc = (zoned d).utc; offset = (zoned e).offset }
  pub from_utc : zoned a.from_utc ≡ record { utc = (zoned d).utc; offset = (zoned e).offset }
  pub from_local : zoned a.from_local ≡ instant_of f.seconds (wall_of d) (zoned d).offset

-- In UTC, from a UTC date-time or a timestamp.
pub record AreInUtc (utc : Reading) (asked : Asked) (a : InUtc) : Type 0 where
  pub and_utc : zoned a.and_utc ≡ in_utc utc
  pub from_timestamp : let r = of_secs asked.stamp asked.nanosecond in SomeIff (option_map (λ n. zoned n) a.from_timestamp) (IsStamp r) (in_utc r)
  pub from_timestamp_secs : let r = of_secs asked.stamp 0 in SomeIff (option_map (λ n. zoned n) a.from_timestamp_secs) (IsInRange r.s) (in_utc r)
  pub from_timestamp_millis : let r = of_millis asked.stamp in SomeIff (option_map (λ n. zoned n) a.from_timestamp_millis) (IsInRange r.s) (in_utc r)
  pub from_timestamp_micros : let r = of_micros asked.stamp in SomeIff (option_map (λ n. zoned n) a.from_timestamp_micros) (IsInRange r.s) (in_utc r)
  pub from_timestamp_nanos : zoned a.from_timestamp_nanos ≡ in_utc (of_total asked.stamp)

-- The first and the last UTC date-time in range, and 1970-01-01 00:00:00 UTC.
pub record AreNamed (a : Named) : Type 0 where
  pub min_utc : zoned a.min_utc ≡ in_utc first_reading
  pub max_utc : zoned a.max_utc ≡ in_utc last_reading
  pub unix_epoch : zoned a.unix_epoch ≡ in_utc epoch
  pub min_datetime : zoned a.min_datetime ≡ in_utc first_reading
  pub max_datetime : zoned a.max_datetime ≡ in_utc last_reading
  pub default_in_utc : zoned a.default_in_utc ≡ in_utc epoch
  pub default_at_offset : IsFixedFrom (λ _. pos 0) (in_utc epoch) (zoned a.default_at_offset)

-- Parts: the UTC date-time, the offset and its zone, and what a clock at that offset shows. In another zone the UTC date-time stays.
pub record AreParts {Tz O : Type 0} {f : offset.Ghosts O} {g : debug.Ghosts O} {m : Meaning O} (law_of : Tz → Law m) (zone : Tz) (d : Instant Tz O f g)
    (a : Parts Tz O f g) : Type 0 where
  pub naive_utc : reading a.naive_utc ≡ (zoned d).utc
  pub offset : a.offset ≡ (zoned d).offset
  pub timezone : SameLaw (law_of a.timezone) (home_law_of m d)
  pub naive_local : reading a.naive_local ≡ wall_of d
  pub date_naive : day_of a.date_naive ≡ day_at (wall_of d)
  pub time : time_of a.time ≡ time_at (wall_of d)
  pub with_timezone : IsAt (law_of zone) (zoned d).utc (zoned a.with_timezone)
  pub to_utc : zoned a.to_utc ≡ in_utc (zoned d).utc
  pub fixed_offset : IsFixedFrom f.seconds (zoned d) (zoned a.fixed_offset)
  pub fixed_from_utc : IsFixedFrom (λ _. pos 0) (in_utc (zoned d).utc) (zoned a.fixed_from_utc)
  pub utc_from_fixed : zoned a.utc_from_fixed ≡ in_utc (zoned d).utc

-- Fields: of the day and of the time of day that its clock shows.
pub record AreFields (on : ℤ) (clock : TimeOfDay) (a : Fields) : Type 0 where
  pub year : a.year ≡ year_of on
  pub month : a.month ≡ month_of on
  pub month0 : a.month0 + 1 ≡ month_of on
  pub day : a.day ≡ day_of_month on
  pub day0 : a.day0 + 1 ≡ day_of_month on
  pub ordinal : a.ordinal ≡ day_of_year on + 1
  pub ordinal0 : a.ordinal0 ≡ day_of_year on
  pub weekday : weekday_number a.weekday ≡ weekday_of on
  pub iso_week : IsWeekOf on a.iso_week
  pub hour : a.hour ≡ hour_hand clock.second
  pub minute : a.minute ≡ minute_hand clock.second
  pub second : a.second ≡ second_hand clock.second
  pub nanosecond : a.nanosecond ≡ clock.fraction

-- With another year, month, day of the month or of the year, hour, minute, second or nanosecond: the only instant that shows the rest too.
abbrev pub IsOnDate : {Tz O : Type 0} {f : offset.Ghosts O} {g : debug.Ghosts O} (m : Meaning O) → Instant Tz O f g → ℤ → ℕ → ℕ → Option (Instant Tz O f g) → Type 0
IsOnDate m d year month day answer = IsDateGiven (λ e. day_shown_by e) (IsOnlyOnDay m d) (day_shown_by d) year month day answer

abbrev pub IsOnOrdinal : {Tz O : Type 0} {f : offset.Ghosts O} {g : debug.Ghosts O} (m : Meaning O) → Instant Tz O f g → ℕ → Option (Instant Tz O f g) → Type 0
IsOnOrdinal m d n answer = IsOrdinalGiven (λ e. day_shown_by e) (IsOnlyOnDay m d) (day_shown_by d) (year_of (day_shown_by d)) n answer

abbrev pub IsAtClock : {Tz O : Type 0} {f : offset.Ghosts O} {g : debug.Ghosts O} (m : Meaning O) → Instant Tz O f g → Type 0 → TimeOfDay → Option (Instant Tz O f g) → Type 0
IsAtClock m d p time answer = IsGiven (λ e. time_at (wall_of e)) (IsOnlyAtTime m d) p time answer

pub record AreChanged {Tz O : Type 0} {f : offset.Ghosts O} {g : debug.Ghosts O} (m : Meaning O) (d : Instant Tz O f g) (day : ℤ) (time : TimeOfDay)
    (asked : Asked) (a : Changed Tz O f g) : Type 0 where
  pub with_year : IsOnDate m d asked.year (month_of day) (day_of_month day) a.with_year
  pub with_month : IsOnDate m d (year_of day) asked.month (day_of_month day) a.with_month
  pub with_month0 : IsOnDate m d (year_of day) (asked.month + 1) (day_of_month day) a.with_month0
  pub with_day : IsOnDate m d (year_of day) (month_of day) asked.day a.with_day
  pub with_day0 : IsOnDate m d (year_of day) (month_of day) (asked.day + 1) a.with_day0
  pub with_ordinal : IsOnOrdinal m d asked.day a.with_ordinal
  pub with_ordinal0 : IsOnOrdinal m d (asked.day + 1) a.with_ordinal0
  pub with_hour : IsAtClock m d (asked.hour < 24) (with_hour time asked.hour) a.with_hour
  pub with_minute : IsAtClock m d (asked.minute < 60) (with_minute time asked.minute) a.with_minute
  pub with_second : IsAtClock m d (asked.second < 60) (with_second time asked.second) a.with_second
  pub with_nanosecond : IsAtClock m d (asked.nanosecond < 2_000_000_000) (with_fraction time asked.nanosecond) a.with_nanosecond

-- Moved by a length, or by the calendar, or set to a time of day: the only instant that shows the local time.
pub record AreMoved {Tz O : Type 0} {f : offset.Ghosts O} {g : debug.Ghosts O} (m : Meaning O) (d : Instant Tz O f g) (asked : Asked)
    (a : Moved Tz O f g) : Type 0 where
  pub checked_add_signed : IsLater m d (nanos_of asked.length) a.checked_add_signed
  pub checked_sub_signed : IsLater m d (neg_ℤ (nanos_of asked.length)) a.checked_sub_signed
  pub checked_add_months : IsOnlyMonthsLater m d (pos (months_of asked.months)) a.checked_add_months
  pub checked_sub_months : IsOnlyMonthsLater m d (neg_ℤ (pos (months_of asked.months))) a.checked_sub_months
  pub checked_add_days : IsDaysAdded m d (days_of asked.days) a.checked_add_days
  pub checked_sub_days : IsOnlyDaysLater m d (neg_ℤ (pos (days_of asked.days))) a.checked_sub_days
  pub with_time : IsRelocal (home_law_of m d) (reading_at (day_at (wall_of d)) (second_of asked.time) (fraction_of asked.time))
      (map_of (λ n. zoned n) a.with_time)

-- The operators `+`, `-`, `+=` and `-=`: the value of the checked form, if it answers. (A `Duration` may be too long for a `TimeDelta`.)
pub record AreOperated {Tz O : Type 0} {f : offset.Ghosts O} {g : debug.Ghosts O} (m : Meaning O) (d : Instant Tz O f g) (asked : Asked)
    (a : Operated Tz O f g) : Type 0 where
  pub add_length : IsLater m d (nanos_of asked.length) a.add_length
  pub sub_length : IsLater m d (neg_ℤ (nanos_of asked.length)) a.sub_length
  pub add_assign_length : IsLater m d (nanos_of asked.length) a.add_assign_length
  pub sub_assign_length : IsLater m d (neg_ℤ (nanos_of asked.length)) a.sub_assign_length
  pub add_duration : let by = pos (as_nanos asked.duration) in FitsTimeDelta by → IsLater m d by a.add_duration
  pub sub_duration : let by = pos (as_nanos asked.duration) in FitsTimeDelta by → IsLater m d (neg_ℤ by) a.sub_duration
  pub add_assign_duration : let by = pos (as_nanos asked.duration) in FitsTimeDelta by → IsLater m d by a.add_assign_duration
  pub sub_assign_duration : let by = pos (as_nanos asked.duration) in FitsTimeDelta by → IsLater m d (neg_ℤ by) a.sub_assign_duration
  pub add_offset : IsSet d (ahead (zoned d).utc (seconds_of asked.offset)) a.add_offset
  pub sub_offset : IsSet d (behind (zoned d).utc (seconds_of asked.offset)) a.sub_offset
  pub add_months : IsOnlyMonthsLater m d (pos (months_of asked.months)) a.add_months
  pub sub_months : IsOnlyMonthsLater m d (neg_ℤ (pos (months_of asked.months))) a.sub_months
  pub add_days : IsDaysAdded m d (days_of asked.days) a.add_days
  pub sub_days : IsOnlyDaysLater m d (neg_ℤ (pos (days_of asked.days))) a.sub_days

-- Compared: by the UTC date-times; whole years by the local ones.
pub record AreCompared {Tz O : Type 0} {f : offset.Ghosts O} {g : debug.Ghosts O} (d e : Instant Tz O f g) (a : Compared) : Type 0 where
  pub signed_duration_since : nanos_of a.signed_duration_since ≡ difference (zoned d).utc (zoned e).utc
  pub sub : nanos_of a.sub ≡ difference (zoned d).utc (zoned e).utc
  pub sub_reference : nanos_of a.sub_reference ≡ difference (zoned d).utc (zoned e).utc
  pub years_since : IsYearsSince (wall_of d) (wall_of e) a.years_since
  pub eq : IsTrue a.eq ↔ ((zoned d).utc ≡ (zoned e).utc)
  pub cmp : a.cmp ≡ compared (zoned d).utc (zoned e).utc
  pub partial_cmp : a.partial_cmp ≡ Some (compared (zoned d).utc (zoned e).utc)
  pub same_instant : IsTrue a.same_instant ↔ ((zoned d).utc ≡ (zoned e).utc)
  pub cmp_instant : a.cmp_instant ≡ compared (zoned d).utc (zoned e).utc

-- Timestamps: of the UTC date-time.
pub record AreStamps (utc : Reading) (a : Stamps) : Type 0 where
  pub timestamp : a.timestamp ≡ utc.s
  pub timestamp_millis : a.timestamp_millis ≡ millis_of utc
  pub timestamp_micros : a.timestamp_micros ≡ micros_of utc
  pub timestamp_nanos_opt : SomeIff a.timestamp_nanos_opt (FitsSigned w64 (total utc)) (total utc)
  pub timestamp_subsec_millis : a.timestamp_subsec_millis ≡ utc.f / 1_000_000
  pub timestamp_subsec_micros : a.timestamp_subsec_micros ≡ utc.f / 1_000
  pub timestamp_subsec_nanos : a.timestamp_subsec_nanos ≡ utc.f

-- Rounded: moved as far as it is from what its clock shows to the multiple of the length below, the nearest one, or the one above; and cut
-- after some digits of a second.
pub record AreRounded {Tz O : Type 0} {f : offset.Ghosts O} {g : debug.Ghosts O} (m : Meaning O) (d : Instant Tz O f g) (asked : Asked)
    (a : Rounded Tz O f g) : Type 0 where
  pub duration_trunc : IsRoundedBy m d multiple_below (nanos_of asked.length) a.duration_trunc
  pub duration_round : IsRoundedBy m d nearest_multiple (nanos_of asked.length) a.duration_round
  pub duration_round_up : IsRoundedBy m d multiple_above (nanos_of asked.length) a.duration_round_up
  pub trunc_subsecs : IsTruncated (λ r n. IsAt (home_law_of m d) r (zoned n)) (zoned d).utc asked.digits d a.trunc_subsecs

-- The headline. `parsed` is any parsed zone, `zone` any lawful one with its law, and d and e are any instants, whose offsets need not be
-- those of their zones.
pub record Headline {Tz O : Type 0} {f : offset.Ghosts O} {g : debug.Ghosts O} {m : Meaning O} (bytes posix spelled : List ℕ) (extended : Bool)
    (parsed : Zone) (law_of : Tz → Law m) (zone : Tz) (d e : Instant Tz O f g) (asked : Asked) (a : Answers Tz O f g) : Type 0 where
  -- a file's bytes give the one valid zone that they spell, or their first fault, unless memory runs out; the zone's clocks
  pub from_tz_data :
      IsAnswerOf (IsValidFile bytes) (IsFileFault bytes) (IsAnsweredInZone asked) ((p : FilePieces) × HasPieces bytes p) a.from_tz_data
  pub from_posix_tz :
      IsAnswerOf (IsPosixZone posix) (IsPosixFault posix) (IsAnsweredInZone asked) ((z : Zone) × IsPosixZone posix z) a.from_posix_tz
  -- so does a TZ string with or without the extensions, a rule, for which no memory is needed
  pub from_tz_string : IsAnswerOf (IsTzText extended spelled) (IsTextFault extended spelled) (IsAnsweredByRule asked) ⊥ a.from_tz_string
  -- lawful zones: those that parsed zones are, and any other
  pub time_zone_ref : IsReferenceTo parsed a.time_zone_ref
  pub lawful : IsLawful (law_of zone) (zoned d).utc.s (reading asked.local).s a.lawful
  -- calls of instants
  pub by_clock : AreByClock (law_of zone) asked a.by_clock
  pub by_stamp : AreByStamp (law_of zone) (zoned d).utc asked a.by_stamp
  pub of_parts : AreOfParts d e a.of_parts
  pub in_utc : AreInUtc (zoned d).utc asked a.in_utc
  pub named : AreNamed a.named
  pub parts : AreParts law_of zone d a.parts
  pub fields : AreFields (day_shown_by d) (time_at (wall_of d)) a.fields
  pub changed : AreChanged m d (day_shown_by d) (time_at (wall_of d)) asked a.changed
  pub moved : AreMoved m d asked a.moved
  pub operated : AreOperated m d asked a.operated
  pub compared : AreCompared d e a.compared
  pub stamps : AreStamps (zoned d).utc a.stamps
  pub rounded : AreRounded m d asked a.rounded
