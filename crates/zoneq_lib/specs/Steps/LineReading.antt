-- What is read at the front of a line: a value with the bytes after it, or the reason why it has no value. And a question as what a line asks.
use Rattle.std.specs.Prelude.{◌≡◌, ℕ, List, [], ◌∷◌, Result, Ok, Err}
use Rattle.tz_base.specs.{Grammar.{Grammar, from_fault, read}, declared.error.Error.{Error}}
use Rattle.naive_base.specs.NaiveDateTime.{reading}
use Rattle.zoneq_lib.specs.{Hex.{bytes_of}, Questions.{Query, Text, Data, At, Wall, Resolve, Show}, declared.question.Question.{Question}}
use Rattle.zoneq_lib.specs.declared.bad_line.BadLine.{BadLine, TheVariants.{Unfinished, Hopeless}}
use Rattle.zoneq_lib.specs.declared.question.Question.TheVariants as questions

-- what a call returned, seen by `view`, is what is read
abbrev pub ReadsAs : {X Y : Type 0} → (X → Y) → Result X BadLine → Result Y BadLine → Type 0
ReadsAs view (Ok x) front = front ≡ Ok (view x)
ReadsAs view (Err e) front = front ≡ Err e

-- why nothing is read at these bytes: at the end, more may come
abbrev pub stop : List ℕ → BadLine
stop [] = Unfinished
stop (b ∷ bytes) = Hopeless

abbrev pub or_stop : {X : Type 0} → List ℕ → Result X Error → Result X BadLine
or_stop bytes (Ok x) = Ok x
or_stop bytes (Err e) = Err (stop bytes)

-- what a grammar reads at the front of a line. If its fault is at the end of the bytes, the line is unfinished, since more may
-- come; if it is at a byte, the line is hopeless
abbrev pub scan : {X : Type 0} → Grammar X → List ℕ → Result (X × List ℕ) BadLine
scan g bytes = or_stop (from_fault g bytes) (read g bytes)

-- what a question asks
abbrev pub query_of : Question → Query
query_of (questions.Text text) = Text text.now
query_of (questions.Data digits) = Data (bytes_of digits.now)
query_of (questions.At seconds) = At seconds
query_of (questions.Wall local) = Wall (reading local).s
query_of (questions.Resolve local choice) = Resolve (reading local) choice
query_of (questions.Show seconds nanos) = Show seconds nanos
