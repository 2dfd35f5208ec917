-- New York's clocks since 2007, by the TZ string `EST5EDT,M3.2.0,M11.1.0`.
use Rattle.std.specs.Prelude.{pos, neg_ℤ, true, false, [], ◌∷◌, Some}
use Rattle.tz_base.specs.LocalTypes.{LocalType}
use Rattle.tz_info.specs.{Rules.{Alternate}, Zones.{Zone}, PosixZones.{posix_zone}, declared.rule.day.DayForm.TheVariants.{MonthWeekday}}
use Rattle.tz_info.specs.declared.rule.transition_rule.TransitionRule.{TransitionRule}
use Rattle.tz_info.specs.declared.rule.transition_rule.TransitionRule.TheVariants as rules

-- `EST` and `EDT`
abbrev pub est : LocalType
est = record { offset = neg_ℤ (pos 18_000); dst = false; name = Some (69 ∷ 83 ∷ 84 ∷ []) }

-- daylight saving time of New York
abbrev pub edt : LocalType
edt = record { offset = neg_ℤ (pos 14_400); dst = true; name = Some (69 ∷ 68 ∷ 84 ∷ []) }

-- from the second Sunday of March, 02:00, to the first of November, 02:00
abbrev pub new_york : Alternate
new_york = record {
  std = est;
  dst = edt;
  start = record { day = MonthWeekday 3 2 0; time = pos 7_200 };
  end = record { day = MonthWeekday 11 1 0; time = pos 7_200 };
}

-- the rule of New York since 2007
abbrev pub new_york_rule : TransitionRule
new_york_rule = rules.Alternate new_york

abbrev pub new_york_zone : Zone
new_york_zone = posix_zone new_york_rule
