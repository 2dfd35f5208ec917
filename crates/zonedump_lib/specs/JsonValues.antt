-- What the clocks of a zone do in a period, as a JSON value.
use Rattle.std.specs.{Prelude.{◌≡◌, ℕ, List, [], ◌∷◌, length, Option, Some, None, codes, decimal}, Fmt.{signed_decimal}}
use Rattle.json.specs.{Json.{Json, null, number, string, document}, Print.{print}, Tree.{json_tokens}}
use Rattle.tz_info.specs.{Changes.{AreChanges}, Zones.{Zone, TypeAt}, declared.rule.day.{DayForm.{DayForm}, DayTime.{DayTime}}}
use Rattle.tz_info.specs.declared.rule.transition_rule.TransitionRule.{TransitionRule}
use Rattle.tz_base.specs.declared.leap_second.LeapSecond.{LeapSecond}
use Rattle.tz_base.specs.declared.change.Change.{Change}
use Rattle.zonedump_lib.specs.{ChangeValues.{change_value, fields, list_value, type_value}, Periods.{bound_value, first_second, second_after}}
use Rattle.zonedump_lib.specs.declared.period.Bound.{Bound}
use Rattle.tz_info.specs.declared.rule.day.DayForm.TheVariants as days
use Rattle.tz_info.specs.declared.rule.transition_rule.TransitionRule.TheVariants as rules

-- a day of each year in its form: `J` with n, `n` with n, or `M` with month, week and weekday
abbrev pub day_value : DayForm → Json
day_value (days.Julian1 n) = fields ((codes "form", string (codes "J")) ∷ (codes "n", number (decimal n)) ∷ [])
day_value (days.Julian0 n) = fields ((codes "form", string (codes "n")) ∷ (codes "n", number (decimal n)) ∷ [])
day_value (days.MonthWeekday month week weekday) =
    fields
    ((codes "form", string (codes "M")) ∷ (codes "month", number (decimal month)) ∷ (codes "week", number (decimal week))
    ∷ (codes "weekday", number (decimal weekday)) ∷ [])

-- a day of each year, and seconds after its midnight
abbrev pub moment_value : DayTime → Json
moment_value d = fields ((codes "day", day_value d.day) ∷ (codes "time", number (signed_decimal d.time)) ∷ [])

-- what follows the last transition: nothing else, one type, or two types in turns
abbrev pub rule_value : Option TransitionRule → Json
rule_value None = null
rule_value (Some (rules.Fixed t)) = fields ((codes "always", type_value t) ∷ [])
rule_value (Some (rules.Alternate a)) =
    fields
    ((codes "std", type_value a.std) ∷ (codes "dst", type_value a.dst) ∷ (codes "start", moment_value a.start)
    ∷ (codes "end", moment_value a.end) ∷ [])

-- a leap second: the leap time from which its correction holds, and the correction
abbrev pub leap_value : LeapSecond → Json
leap_value e = fields ((codes "leap_time", number (signed_decimal e.unix_leap_time)) ∷ (codes "correction", number (signed_decimal e.correction)) ∷ [])

-- the zone under that name, with those changes
abbrev pub zone_value : List ℕ → Bound → Bound → Zone → List Change → Json
zone_value name first last zone changes =
    fields
    ((codes "zone", string name)
    ∷ (codes "from", bound_value first)
    ∷ (codes "to", bound_value last)
    ∷ (codes "transitions", number (decimal (length zone.transitions)))
    ∷ (codes "types", number (decimal (length zone.types)))
    ∷ (codes "rule", rule_value zone.rule)
    ∷ (codes "leap_seconds", list_value leap_value zone.leaps)
    ∷ (codes "changes", list_value change_value changes)
    ∷ [])

-- the JSON text of the zone, whose changes are exactly those from the first second of the period to its last one in UTC, in
-- order: the printed tokens of its value, and so without white space outside its strings, in which a line feed is
-- escaped
pub record IsJson (zone : Zone) (name : List ℕ) (first last : Bound) (text : List ℕ) : Type 0 where
  pub changes : List Change
  pub all : AreChanges (TypeAt zone) (first_second first) (second_after last) changes
  pub value_is : document text ≡ Some (zone_value name first last zone changes)
  pub printed : text ≡ print (json_tokens (zone_value name first last zone changes))
