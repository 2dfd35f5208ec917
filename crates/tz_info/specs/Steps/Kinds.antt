-- Kinds of years: a year is a leap year or not, and begins with one of the seven weekdays.
use Rattle.std.specs.Prelude.{ℕ, ◌+◌, ◌*◌, ◌/◌, ◌%◌, Bool, ◌&&◌, ◌||◌, if◌then◌else◌, List, map, slice_index_or, ℤ, pos, neg_ℤ, ◌-ℤ◌, ◌*ℤ◌, int_le, int_lt, ◌+ℤ◌}
use Rattle.{
  naive_base.specs.{Year.{is_leap, year_start}, Weekday.{weekday_of}},
  tz_info.specs.{Moments.{moment}, Rules.{Alternate}, Steps.{Below.{all_below}, KindPlaces.{places_by_kind}}, declared.rule.day.DayTime.{DayTime}},
}

-- the place of the year's kind: the common years that begin with Sunday to Saturday, and then the leap years
abbrev pub kind_place : ℤ → ℕ
kind_place year = (if is_leap year then 7 else 0) + weekday_of (year_start year)

-- the second, counted from the year's first, at which a clock at that offset shows the day's time
abbrev pub second_in : DayTime → ℤ → ℤ → ℤ
second_in t offset year = moment t offset year -ℤ pos 86_400 *ℤ year_start year

-- that second in a year in which `place` days come before the day
abbrev pub day_time_second : DayTime → ℤ → ℕ → ℤ
day_time_second t offset place = pos 86_400 *ℤ pos place +ℤ (t.time -ℤ offset)

-- that second in a year of each kind
unfoldable pub seconds_by_kind : DayTime → ℤ → List ℤ
seconds_by_kind t offset = map (day_time_second t offset) (places_by_kind t.day)

-- those of an alternate rule's start and of its end
abbrev pub starts_of : Alternate → List ℤ
starts_of a = seconds_by_kind a.start a.std.offset

abbrev pub ends_of : Alternate → List ℤ
ends_of a = seconds_by_kind a.end a.dst.offset

-- the second, counted from the year's first, lies two days or more from the year's ends
abbrev pub is_inside : ℤ → Bool
is_inside second = int_le (pos 172_800) second && int_le second (pos 31_363_200)

-- so do both moments, and the start comes first or not
abbrev pub is_calm : Bool → ℤ → ℤ → Bool
is_calm start_first start end = is_inside start && is_inside end && (if start_first then int_le start end else int_lt end start)

-- the moments of that kind do, in the order of the first kind
abbrev pub is_calm_kind : List ℤ → List ℤ → ℕ → Bool
is_calm_kind starts ends kind =
    is_calm (int_le (slice_index_or starts 0 (pos 0)) (slice_index_or ends 0 (pos 0)))
    (slice_index_or starts kind (pos 0)) (slice_index_or ends kind (pos 0))

-- those of all kinds do
unfoldable pub are_calm : List ℤ → List ℤ → Bool
are_calm starts ends = all_below 14 (is_calm_kind starts ends)

-- how far from the ends of their year moments lie
unfoldable pub margin_of : List ℤ → List ℤ → ℤ
margin_of starts ends = if are_calm starts ends then pos 172_800 else neg_ℤ (pos 691_200)

-- how many seconds a year of that kind has, and the weekday that the next year begins with
abbrev pub year_seconds : ℕ → ℤ
year_seconds kind = pos (86_400 * (365 + kind / 7))

abbrev pub next_weekday : ℕ → ℕ
next_weekday kind = (kind % 7 + kind / 7 + 1) % 7

-- the last moment of a year of that kind comes at or after the first one of the next year, whether that is a leap year or not
abbrev pub runs_on : List ℤ → List ℤ → ℕ → Bool
runs_on firsts lasts kind =
    int_le (year_seconds kind +ℤ slice_index_or firsts (next_weekday kind) (pos 0)) (slice_index_or lasts kind (pos 0))
    && int_le (year_seconds kind +ℤ slice_index_or firsts (7 + next_weekday kind) (pos 0)) (slice_index_or lasts kind (pos 0))

-- the two moments of a year of that kind are one
abbrev pub is_one_moment : List ℤ → List ℤ → ℕ → Bool
is_one_moment starts ends kind =
    int_le (slice_index_or starts kind (pos 0)) (slice_index_or ends kind (pos 0))
    && int_le (slice_index_or ends kind (pos 0)) (slice_index_or starts kind (pos 0))

-- in all years the two moments are one, or in each year the one season lasts until it begins again
unfoldable pub are_steady : List ℤ → List ℤ → Bool
are_steady starts ends = all_below 14 (is_one_moment starts ends) || all_below 14 (runs_on starts ends) || all_below 14 (runs_on ends starts)
