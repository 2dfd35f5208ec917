-- What numbers say in words, how a text is written into the room that C gives, and the TZ string that is written of a rule.
use Rattle.std.specs.Prelude.{ℕ, ◌≡◌, ◌⊎◌, List, [], ◌∷◌, ◌++◌, take, drop, length, codes, Bool, Option, None, Some}
use Rattle.tz_info.specs.declared.rule.transition_rule.TransitionRule.{TransitionRule}
use Rattle.tz_write.specs.WrittenTexts.{IsUnspelled, IsWrittenText}

-- the numbers of this library, and what each says
pub data IsSaidOf : ℕ → List ℕ → Type 0 where
  No_error : IsSaidOf 0 (codes "no error")
  Offset_or_name : IsSaidOf 3 (codes "an offset or abbreviation that no local time type can have")
  Not_a_file : IsSaidOf 5 (codes "a fault in the form of a TZif file")
  Text_limits : IsSaidOf 6 (codes "a time or offset of a TZ string is out of its limits, or extra bytes follow the string")
  Bytes_missing : IsSaidOf 7 (codes "unexpected end of input")
  Other_byte : IsSaidOf 8 (codes "unexpected byte in a TZ string")
  Text_number : IsSaidOf 10 (codes "a number of a TZ string is missing or too large")
  No_zone : IsSaidOf 12 (codes "the lists of a TZif file make no valid zone")
  Text_day : IsSaidOf 13 (codes "a month, week, weekday or day of a TZ string is out of its limits")
  Version : IsSaidOf 14 (codes "a TZif version other than 1, 2 and 3")
  Text_ends : IsSaidOf 15 (codes "a TZ string names daylight saving time but has no rule for it")
  Not_utf8 : IsSaidOf 16 (codes "a TZ string that is not UTF-8")
  Out_of_memory : IsSaidOf 17 (codes "out of memory")
  In_gap : IsSaidOf 21 (codes "the local time lies in a gap")
  In_fold : IsSaidOf 22 (codes "the local time lies in a fold")
  Out_of_range : IsSaidOf 23 (codes "the local time or its instant is out of range")
  Unknown_kind : IsSaidOf 31 (codes "no such kind of bytes")
  Other_size : IsSaidOf 32 (codes "there is room for another count of answers")
  Not_open : IsSaidOf 33 (codes "no zone is open")
  Unknown_choice : IsSaidOf 34 (codes "no such choice for gaps and folds")
  No_change : IsSaidOf 35 (codes "no change of the clocks")
  Unknown_unit : IsSaidOf 36 (codes "no such unit of time")
  No_local_time : IsSaidOf 37 (codes "an instant has no local time")
  No_date_time : IsSaidOf 39 (codes "no such date or time of day")
  Wide_zone : IsSaidOf 40 (codes "an offset of the zone is a day or more")
  Other_index : IsSaidOf 41 (codes "a transition of a TZif file names no local time type")
  Not_rising : IsSaidOf 42 (codes "the transition times of a TZif file do not rise")
  Other_leaps : IsSaidOf 43 (codes "the leap seconds of a TZif file cannot follow one another")
  Other_rule : IsSaidOf 44 (codes "the footer of a TZif file disagrees with the last transition")
  No_such_zone : IsSaidOf 45 (codes "no time zone of that name")
  Unreadable_file : IsSaidOf 46 (codes "the file of a time zone can't be read")
  Unknown_step : IsSaidOf 47 (codes "no such step of the local clock")
  Above_limits : IsSaidOf 48 (codes "a TZif file has more transitions or leap seconds than allowed")

-- the text of an error number, or the text for a number that is not an error's
abbrev pub IsTextOf : ℕ → List ℕ → Type 0
IsTextOf n text = IsSaidOf n text ⊎ (((said : List ℕ) → ¬ (IsSaidOf n said)) × (text ≡ codes "no number of this library"))

-- as much of the text as leaves room for a zero byte, then that byte, then the old bytes
abbrev pub written_over : List ℕ → List ℕ → List ℕ
written_over said [] = []
written_over said (b ∷ bs) = take (length bs) said ++ (0 ∷ drop (length (take (length bs) said)) bs)

-- the shortest string, with minutes and seconds in two digits, that spells the rule; nothing without a rule, and nothing of a rule that no string spells
pub data IsRuleString : Option TransitionRule → List ℕ → Type 0 where
  no_rule : IsRuleString None []
  unspelled : (rule : TransitionRule) → IsUnspelled rule → IsRuleString (Some rule) []
  spelled : (rule : TransitionRule) (text : List ℕ) (extended : Bool) → IsWrittenText rule text extended → IsRuleString (Some rule) text
