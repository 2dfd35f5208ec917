-- The moments at which a rule changes the clock, and the type in force between them (POSIX.1 section 8.3).
use Rattle.std.specs.Prelude.{◌≡◌, Bool, if◌then◌else◌, IsTrue, IsFalse, ◌↔◌, ℤ, pos, neg_ℤ, ◌+ℤ◌, ◌-ℤ◌, ◌*ℤ◌, ◌≤ℤ◌, ◌<ℤ◌, ◌⊎◌}
use Rattle.naive_base.specs.Year.{floor_div, LiesIn}
use Rattle.tz_base.specs.LocalTypes.{LocalType}
use Rattle.tz_info.specs.{RuleDayOf.{rule_day}, Rules.{Alternate}, declared.rule.day.DayTime.{DayTime}}

-- the second at which a clock at that offset shows the day's time in that year
unfoldable pub moment : DayTime → ℤ → ℤ → ℤ
moment t offset year = pos 86_400 *ℤ rule_day t.day year +ℤ (t.time -ℤ offset)

-- when daylight saving time starts in each year, on the clock of standard time
abbrev pub start_in : Alternate → ℤ → ℤ
start_in a = moment a.start a.std.offset

-- when it ends in each year, on its own clock
abbrev pub end_in : Alternate → ℤ → ℤ
end_in a = moment a.end a.dst.offset

-- the UTC year of the second u
abbrev pub IsYearOf : ℤ → ℤ → Type 0
IsYearOf u year = LiesIn (floor_div u 86_400) year

-- some year's first moment is not after u, and its last one is
abbrev pub IsInSomeYear : (ℤ → ℤ) → (ℤ → ℤ) → ℤ → Type 0
IsInSomeYear firsts lasts u = (year : ℤ) × (firsts year ≤ℤ u) × (u <ℤ lasts year)

-- whether it is daylight saving time at the second u of the year. If the start comes first in that year, it is if and only if
-- u lies from some year's start to its end; if the end comes first, it is if and only if u does not lie from some year's end to
-- its start
pub record IsDstAt (starts ends : ℤ → ℤ) (year u : ℤ) (dst : Bool) : Type 0 where
  pub start_first : starts year ≤ℤ ends year → IsTrue dst ↔ IsInSomeYear starts ends u
  pub end_first : ends year <ℤ starts year → IsFalse dst ↔ IsInSomeYear ends starts u

-- the years that a rule answers in: those of 32 bits except two at each end
abbrev pub IsRuleYear : ℤ → Type 0
IsRuleYear year = (neg_ℤ (pos 2_147_483_646) ≤ℤ year) × (year ≤ℤ pos 2_147_483_645)

-- the seconds of those years
abbrev pub IsRuleTime : ℤ → Type 0
IsRuleTime u = (neg_ℤ (pos 67_768_100_504_812_800) ≤ℤ u) × (u ≤ℤ pos 67_767_976_170_460_799)

abbrev pub type_when : Alternate → Bool → LocalType
type_when a dst = if dst then a.dst else a.std

-- the alternate rule's type at the second u is t
pub record AlternateAt (a : Alternate) (u : ℤ) (t : LocalType) : Type 0 where
  pub year : ℤ
  pub of_second : IsYearOf u year
  pub inside : IsRuleYear year
  pub dst : Bool
  pub when : IsDstAt (start_in a) (end_in a) year u dst
  pub shown : t ≡ type_when a dst

-- the rule never changes the clocks: no two seconds of the years that it answers in have different types
abbrev pub NeverChanges : Alternate → Type 0
NeverChanges a = (u v : ℤ) (s t : LocalType) → AlternateAt a u s → AlternateAt a v t → s ≡ t

-- a rule does not answer in the year of the second u
abbrev pub IsAlternateRefused : ℤ → Type 0
IsAlternateRefused u = (year : ℤ) → IsYearOf u year → ¬ (IsRuleYear year)

-- in that year the moment comes between the other moments before and after it: those of the year before and of that year,
-- or those of that year and of the next
abbrev pub IsBetween : (ℤ → ℤ) → (ℤ → ℤ) → ℤ → Type 0
IsBetween others moments year =
    ((others (year -ℤ pos 1) <ℤ moments year) × (moments year <ℤ others year))
    ⊎ ((others year <ℤ moments year) × (moments year <ℤ others (year +ℤ pos 1)))
