-- Rules with two types (POSIX.1 section 8.3: `std`, `dst`, and when each begins).
use Rattle.std.specs.Prelude.{ℤ, pos, neg_ℤ, ◌<ℤ◌, int_lt, Bool, ◌&&◌, if◌then◌else◌}
use Rattle.offset_core.specs.Offset.{IsWithinDay}
use Rattle.tz_base.specs.{LocalTypes.{LocalType}, declared.error.Expected.{Expected, TheVariants.{OffsetsWithinDay, StartWithinWeek, EndWithinWeek}}}
use Rattle.tz_info.specs.{RuleDays.{IsRuleDay}, declared.rule.day.DayTime.{DayTime}}

-- what an alternate rule shows: its types, and the days and times of day at which daylight saving time starts and ends
pub record Alternate : Type 0 where
  pub std : LocalType
  pub dst : LocalType
  pub start : DayTime
  pub end : DayTime

-- a day time strictly within a week
abbrev pub IsWithinWeek : ℤ → Type 0
IsWithinWeek time = (neg_ℤ (pos 604_800) <ℤ time) × (time <ℤ pos 604_800)

-- the offsets and the day times of an alternate rule are within their limits
pub record IsAlternate (a : Alternate) : Type 0 where
  pub std_offset : IsWithinDay a.std.offset
  pub dst_offset : IsWithinDay a.dst.offset
  pub start_time : IsWithinWeek a.start.time
  pub end_time : IsWithinWeek a.end.time

-- strictly between the number and its negative
abbrev pub is_strictly_within : ℤ → ℤ → Bool
is_strictly_within limit n = int_lt (neg_ℤ limit) n && int_lt n limit

-- what is expected of numbers that are not in these limits: of the offsets, the start and the end the first that is not
abbrev pub expected_of_alternate : Alternate → Expected
expected_of_alternate a =
    if is_strictly_within (pos 86_400) a.std.offset && is_strictly_within (pos 86_400) a.dst.offset
    then (if is_strictly_within (pos 604_800) a.start.time then EndWithinWeek else StartWithinWeek)
    else OffsetsWithinDay

-- the numbers of an alternate rule, those of its days too, are in their limits
pub record IsAlternateRule (a : Alternate) : Type 0 where
  pub within : IsAlternate a
  pub start_day : IsRuleDay a.start.day
  pub end_day : IsRuleDay a.end.day
