-- What the reader of a TZ string hands from one function to the next: the rule of it, and its limits.
use Rattle.offset_core.specs.Offset.{IsWithinDay}
use Rattle.std.specs.{Prelude.{ℕ, ℤ, ◌≡◌, ◌+◌, Bool, false, List, Result, Ok, Err, Some}, Char.{is_ascii_whitespace}, List.{prefix_len}}
use Rattle.tz_base.specs.{Fronts.{◌>>=◌}, Grammar.{read}, declared.{error.Error.{Error}, parse_error.ParseError.{ParseError}}}
use Rattle.tz_info.specs.{
  Rules.{IsWithinWeek},
  TzGrammar.{text, text_fault_position},
  declared.rule.{day.{DayForm.{DayForm}, DayTime.{DayTime}}, reader.text.Spelled.{Spelled}, transition_rule.TransitionRule.{TransitionRule}},
}
use Rattle.tz_base.specs.Trims.{trimmed}
use Rattle.tz_info.specs.declared.rule.reader.text.Spelled.TheVariants as spelled
use Rattle.tz_info.specs.declared.rule.transition_rule.TransitionRule.TheVariants as rules

-- a day with its time
abbrev pub day_time_of : DayForm × ℤ → DayTime
day_time_of d = record { day = d.0; time = d.1 }

-- the rule that was spelled
abbrev pub rule_of : Spelled → TransitionRule
rule_of (spelled.Fixed t) = rules.Fixed t
rule_of (spelled.Alternate std dst start end) = rules.Alternate (record { std = std; dst = dst; start = day_time_of start; end = day_time_of end })

-- and the limits that its offsets and times were read within
abbrev pub IsSpelled : Spelled → Type 0
IsSpelled (spelled.Fixed t) = Unit {0}
IsSpelled (spelled.Alternate std dst start end) = IsWithinDay std.offset × IsWithinDay dst.offset × IsWithinWeek start.1 × IsWithinWeek end.1

-- the rule of a TZ string, which goes to the end
unfoldable pub rule_in : Bool → List ℕ → Result TransitionRule Error
rule_in extended bytes = read (text extended) bytes >>= λ p. Ok p.0

-- what all bytes of a string were read as: what they spell, or the error and its place
abbrev pub IsParsed : Bool → List ℕ → Result Spelled ParseError → Type 0
IsParsed extended bytes (Ok s) = (rule_in extended bytes ≡ Ok (rule_of s)) × IsSpelled s
IsParsed extended bytes (Err e) = (rule_in extended bytes ≡ Err e.error) × (e.position ≡ Some (text_fault_position extended bytes))

-- the same of a string without the white space at its ends, with the place in the whole string
abbrev pub IsTrimmedRule : List ℕ → Result Spelled ParseError → Type 0
IsTrimmedRule text (Ok s) = (rule_in false (trimmed text) ≡ Ok (rule_of s)) × IsSpelled s
IsTrimmedRule text (Err e) =
    (rule_in false (trimmed text) ≡ Err e.error)
    × (e.position ≡ Some (prefix_len is_ascii_whitespace text + text_fault_position false (trimmed text)))
