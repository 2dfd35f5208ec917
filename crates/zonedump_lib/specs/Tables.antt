-- The table of a zone in a period: a head, and a line for each change of its clocks.
use Rattle.std.specs.{Prelude.{◌≡◌, ℕ, List, ◌++◌, codes, decimal, length}, Fmt.{signed_decimal}, List.{flat_map}}
use Rattle.tz_info.specs.{Changes.{AreChanges}, Zones.{Zone, TypeAt}}
use Rattle.tz_base.specs.declared.leap_second.LeapSecond.{LeapSecond}
use Rattle.tz_base.specs.declared.change.Change.{Change}
use Rattle.zonedump_lib.specs.{ChangeLines.{change_lines, ended_line}, Periods.{bound_words, first_second, second_after}, RuleWords.{rule_words}}
use Rattle.zonedump_lib.specs.declared.period.Bound.{Bound}

-- a leap second
abbrev pub leap_text : LeapSecond → List ℕ
leap_text e = codes "leap second: correction " ++ signed_decimal e.correction ++ codes " from leap time " ++ signed_decimal e.unix_leap_time

-- the counts of the zone's lists
abbrev pub counts_text : Zone → List ℕ
counts_text zone =
    decimal (length zone.transitions) ++ codes " transitions, " ++ decimal (length zone.types) ++ codes " types, "
    ++ decimal (length zone.leaps) ++ codes " leap seconds"

-- what follows the last transition
abbrev pub rule_text : Zone → List ℕ
rule_text zone = codes "rule: " ++ rule_words zone.rule

-- the period, and how many changes come in it
abbrev pub period_text : Bound → Bound → ℕ → List ℕ
period_text first last count =
    codes "changes from " ++ bound_words first ++ codes " to " ++ bound_words last ++ codes ": " ++ decimal count

-- a line for each leap second
abbrev pub leap_lines : List LeapSecond → List ℕ
leap_lines leaps = flat_map (λ e. ended_line (leap_text e)) leaps

-- the head of a table
abbrev pub head_text : Zone → Bound → Bound → ℕ → List ℕ
head_text zone first last count =
    ended_line (counts_text zone) ++ ended_line (rule_text zone) ++ leap_lines zone.leaps ++ ended_line (period_text first last count)

abbrev pub table_text : Zone → Bound → Bound → List Change → List ℕ
table_text zone first last changes = head_text zone first last (length changes) ++ change_lines changes

-- the table of the zone: after the head its lines are exactly the changes from the first second of the period to its last
-- one in UTC, in order
abbrev pub IsTable : Zone → Bound → Bound → List ℕ → Type 0
IsTable zone first last text =
    (changes : List Change) × AreChanges (TypeAt zone) (first_second first) (second_after last) changes × (text ≡ table_text zone first last changes)

-- the beginning of a table, to which the lines of some changes are still to be added
abbrev pub BeginsTable : Zone → Bound → Bound → List ℕ → List Change → Type 0
BeginsTable zone first last text left = IsTable zone first last (text ++ change_lines left)
