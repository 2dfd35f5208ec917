-- What a line asks. The lines are one grammar: words are parted by exactly one space, and a text is all that follows the
-- space after `text`.
use Rattle.std.specs.{Prelude.{ℕ, ℤ, pos, neg_ℤ, ◌≤◌, ◌-◌, ◌^◌, Bool, true, false, List, [], ◌∷◌, codes}, Str.{IsUtf8}}
use Rattle.offset_core.specs.declared.choice.{Choice.{Choice}, GapChoice.{GapChoice}, FoldChoice.{FoldChoice}}
use Rattle.naive_base.specs.{Clock.{clock_second}, Date.{day_number}, Month.{days_in_month}, Reading.{Reading, reading_at}, Year.{is_leap}}
use Rattle.tz_base.specs.Grammar.{Grammar, Nothing, Marked, Ended, End, Byte, Number, Rest, Refused, Check, ◌>>=◌, ◌>>◌, Spells}
use Rattle.tz_base.specs.{Refusals.{Refusal, InvalidTzString}, declared.error.Expected.TheVariants.{OtherBytes}}
use Rattle.tz_base.specs.Steps.{Comparisons.{at_most, between}, TextTests.{utf8_test}}
use Rattle.tz_info.specs.TzGrammar.{minus, slash}
use Rattle.zoneq_lib.specs.{Hex.{SpellBytes, bytes_of}, Steps.HexTests.{bytes_test}}
use Rattle.offset_core.specs.declared.choice.GapChoice.TheVariants as gaps
use Rattle.offset_core.specs.declared.choice.FoldChoice.TheVariants as folds

-- a question: to read a TZ string or the bytes of a TZif file as the zone; for the type in force at a Unix time; for the
-- types that are in force when a clock shows a local time, the seconds from 1970-01-01 00:00:00 on the clock, every day
-- counted as 86,400; for the instant that a choice for gaps and folds takes for a local date-time; or for what the
-- zone's clocks show at a Unix time, and nanoseconds after it
pub data Query : Type 0 where
  Text : List ℕ → Query
  Data : List ℕ → Query
  At : ℤ → Query
  Wall : ℤ → Query
  Resolve : Reading → Choice → Query
  Show : ℤ → ℕ → Query

-- every bad line has the same answer, so all faults are one
abbrev pub bad : Refusal
bad = InvalidTzString OtherBytes

-- ---- words
-- these bytes
unfoldable pub Word : List ℕ → Grammar (Unit {0})
Word [] = Nothing tt
Word (c ∷ word) = Byte c >> Word word

-- the word, for true; or nothing, for false, if the bytes don't begin with the word's first byte
unfoldable pub Begins : List ℕ → Grammar Bool
Begins [] = Nothing true
Begins (c ∷ word) = Marked c (Word word >> Nothing true) (Nothing false)

-- one of two grammars
abbrev pub chosen : {X : Type 0} → Grammar X → Grammar X → Bool → Grammar X
chosen g h true = g
chosen g h false = h

-- the first grammar after the word; or the second, if the bytes don't begin with the word's first byte
abbrev pub After : {X : Type 0} → List ℕ → Grammar X → Grammar X → Grammar X
After word g h = Begins word >>= chosen g h

-- ---- numbers: decimal digits, with any leading zeros
abbrev pub space : ℕ
space = 32

abbrev pub negative : ℕ → Grammar ℤ
negative max = do
  n ← Number max
  Nothing (neg_ℤ (pos n))

abbrev pub positive : ℕ → Grammar ℤ
positive max = do
  n ← Number max
  Nothing (pos n)

-- a number up to the first limit after a minus sign, or up to the second one without a sign
unfoldable pub integer : ℕ → ℕ → Grammar ℤ
integer least most = Marked minus (negative least) (positive most)

-- seconds of 64 bits
unfoldable pub unix_seconds : Grammar ℤ
unix_seconds = integer (2 ^ 63) (2 ^ 63 - 1)

-- one more number, after one space
unfoldable pub next : ℕ → Grammar ℕ
next max = do
  Byte space
  Number max

-- ---- dates and times
-- a year, a month and a day that the calendar has, as days from 1970-01-01
unfoldable pub calendar_day : Grammar ℤ
calendar_day = do
  y ← integer 262_143 262_142
  m ← next 12
  Check (1 ≤ m) (at_most 1 m) bad (tt {0})
  d ← next 31
  let last = days_in_month (is_leap y) m
  Check ((1 ≤ d) × (d ≤ last)) (between 1 d last) bad (day_number y m d)

-- a date, an hour, a minute and a second, as the local time that a clock shows
unfoldable pub local_time : Grammar Reading
local_time = do
  day ← calendar_day
  h ← next 23
  min ← next 59
  s ← next 59
  Nothing (reading_at day (clock_second h min s) 0)

-- ---- choices for gaps and folds
unfoldable pub gap : Grammar GapChoice
gap = After (codes "refuse") (Nothing gaps.Refuse) (After (codes "shift") (Nothing gaps.ShiftForward) (Refused bad))

unfoldable pub fold : Grammar FoldChoice
fold =
    After (codes "refuse") (Nothing folds.Refuse) (After (codes "earliest") (Nothing folds.Earliest)
    (After (codes "latest") (Nothing folds.Latest) (Refused bad)))

unfoldable pub choice : Grammar Choice
choice = do
  in_gap ← gap
  Byte slash
  in_fold ← fold
  Nothing (record { gap = in_gap; fold = in_fold })

-- ---- what follows the first word of a line
unfoldable pub text_query : Grammar Query
text_query = do
  bytes ← Rest
  Check (IsUtf8 bytes) (utf8_test bytes) bad (Text bytes)

unfoldable pub data_query : Grammar Query
data_query = do
  digits ← Rest
  Check (SpellBytes digits) (bytes_test digits) bad (Data (bytes_of digits))

unfoldable pub at_query : Grammar Query
at_query = do
  seconds ← unix_seconds
  Nothing (At seconds)

unfoldable pub resolve_query : Reading → Grammar Query
resolve_query local = do
  Byte space
  choice ← choice
  Nothing (Resolve local choice)

unfoldable pub wall_query : Grammar Query
wall_query = do
  local ← local_time
  Ended (Nothing (Wall local.s)) (resolve_query local)

unfoldable pub show_query : Grammar Query
show_query = do
  seconds ← unix_seconds
  nanos ← next (2 ^ 32 - 1)
  Nothing (Show seconds nanos)

-- ---- the whole
unfoldable pub question : Grammar Query
question =
    After (codes "text ") text_query (After (codes "data ") data_query (After (codes "at ") at_query
    (After (codes "wall ") wall_query (After (codes "show ") show_query (Refused bad)))))

unfoldable pub query_line : Grammar Query
query_line = do
  query ← question
  End bad
  Nothing query

-- the line asks this
abbrev pub Asks : List ℕ → Query → Type 0
Asks bytes query = Spells query_line bytes query []

-- the line asks nothing
abbrev pub IsBadLine : List ℕ → Type 0
IsBadLine bytes = (query : Query) → ¬ (Asks bytes query)
