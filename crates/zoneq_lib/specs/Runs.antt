-- The lines of an input, what a run has written for them, and how a program ends after a run. Only the input decides the ends of lines:
-- not how it was cut into reads, and not how the answers were cut into writes.
use Rattle.std.specs.Prelude.{◌≡◌, ℕ, ◌<◌, ◌^◌, ◌-◌, List, [], ◌++◌, Bool, true, false, Option, None, length, Result, Ok, Err, codes, ◌≢◌, ◌==◌, ◌∷◌, All}
use Rattle.std.specs.{Prelude.{map, flat_map, slice_index, take, if◌then◌else◌}, Io.KnownBytes.{Appends}}
use Rattle.tz_info.specs.Zones.{Zone}
use Rattle.zoneq_lib.specs.{Answers.{AnswersLines}, declared.run_error.RunError.{RunError}}
use Rattle.zoneq_lib.specs.declared.run_error.RunError.TheVariants as errors

abbrev pub HasNoNewline : List ℕ → Type 0
HasNoNewline bytes = All (λ b. b ≢ 10) bytes

-- the input is these pieces, each with a newline after it, and a rest; no piece has a newline, nor has the rest
pub record IsSplit (input : List ℕ) (pieces : List (List ℕ)) (rest : List ℕ) : Type 0 where
  pub whole : input ≡ flat_map (λ piece. piece ++ codes "\n") pieces ++ rest
  pub each : All HasNoNewline pieces
  pub last : HasNoNewline rest

-- a piece without the carriage return that it may end with
abbrev pub without_return : List ℕ → List ℕ
without_return piece = if slice_index piece (length piece - 1) == 13 then take (length piece - 1) piece else piece

-- the lines that a newline ends
abbrev pub ended_lines : List (List ℕ) → List (List ℕ)
ended_lines pieces = map without_return pieces

-- the line that no newline ends
abbrev pub last_line : List ℕ → List (List ℕ)
last_line [] = []
last_line (b ∷ bytes) = (b ∷ bytes) ∷ []

-- the output answers each line of the input
abbrev pub Answers : List ℕ → List ℕ → Type 0
Answers input output =
    (pieces : List (List ℕ)) × (rest : List ℕ) × (after : Option Zone)
    × IsSplit input pieces rest × AnswersLines None (ended_lines pieces ++ last_line rest) output after

-- the output answers each line that a newline ends
abbrev pub AnswersEnded : List ℕ → List ℕ → Type 0
AnswersEnded input output =
    (pieces : List (List ℕ)) × (rest : List ℕ) × (after : Option Zone)
    × IsSplit input pieces rest × AnswersLines None (ended_lines pieces) output after

-- the output is a beginning of answers to each line
abbrev pub BeginsAnswers : List ℕ → List ℕ → Type 0
BeginsAnswers input output = (more : List ℕ) × Answers input (output ++ more)

-- the output answers each line before one that is in the input, or begins there
abbrev pub AnswersBefore : List ℕ → List ℕ → Type 0
AnswersBefore input output =
    (pieces : List (List ℕ)) × (done : List ℕ) × (failed : List ℕ) × (after : Option Zone)
    × (input ≡ done ++ failed) × (0 < length failed) × IsSplit done pieces [] × AnswersLines None (ended_lines pieces) output after

-- why a run stopped: by the one end that failed, by running out of memory, or by a count of reads that can't go on; and what it
-- has written for what it has read
abbrev pub StopsWith : (reader_failed writer_failed : Bool) → (reads : ℕ) → RunError → List ℕ → List ℕ → Type 0
StopsWith r w n errors.Read input output = (r ≡ true) × (w ≡ false) × AnswersEnded input output
StopsWith r w n errors.Write input output = (r ≡ false) × (w ≡ true) × BeginsAnswers input output
StopsWith r w n errors.Memory input output = (r ≡ false) × (w ≡ false) × AnswersBefore input output
StopsWith r w n errors.TooLong input output = (r ≡ false) × (w ≡ false) × (n ≡ 2 ^ 64 - 1) × AnswersEnded input output

-- the line on standard error that says why a run stopped
abbrev pub fault_text : RunError → List ℕ
fault_text errors.Read = codes "zoneq: read failed"
fault_text errors.Write = codes "zoneq: write failed"
fault_text errors.Memory = codes "zoneq: out of memory"
fault_text errors.TooLong = codes "zoneq: input too long"

-- the exit status of a run
abbrev pub status_of : Result (Unit {0}) RunError → ℕ
status_of (Ok _) = 0
status_of (Err _) = 1

-- what it says of the run on standard error
abbrev pub message_of : Result (Unit {0}) RunError → List ℕ
message_of (Ok _) = []
message_of (Err e) = fault_text e ++ codes "\n"

-- some bytes were written: all of them, or a beginning before the writer failed
abbrev pub WritesUnlessFailed : Bool → Option (List ℕ) → Option (List ℕ) → List ℕ → Type 0
WritesUnlessFailed failed old new bytes =
    (written : List ℕ) × (more : List ℕ) × (bytes ≡ written ++ more) × Appends old new written × (failed ≡ false → more ≡ [])
