-- What becomes of a line, of some bytes of the input after the beginning of a line that earlier bytes left, and of the line that no
-- newline ends; and what of that remains when what was written is sent on its way.
use Rattle.std.specs.{Prelude.{◌≡◌, ℕ, ◌<◌, List, [], ◌∷◌, ◌++◌, ◌⊎◌, Bool, true, false, Option, Result, Err, length, codes}, Io.KnownBytes.{Appends}}
use Rattle.tz_info.specs.Zones.{Zone}
use Rattle.zoneq_lib.specs.{Answers.{AnswersLine, AnswersLines}, Questions.{IsBadLine}, Runs.{HasNoNewline, IsSplit, ended_lines, without_return}}
use Rattle.zoneq_lib.specs.declared.run_error.RunError.{RunError}
use Rattle.zoneq_lib.specs.declared.run_error.RunError.TheVariants as errors

-- ---- beginnings of a line
-- each line that begins so is bad, also if a carriage return before its newline is dropped
pub record IsHopeless (front : List ℕ) : Type 0 where
  pub some : 0 < length front
  pub whole : (more : List ℕ) → IsBadLine (front ++ more)
  pub ended : (more : List ℕ) → IsBadLine (without_return (front ++ more))

-- what is kept of the beginning of a line is that beginning, or as hopeless as it
abbrev pub IsKeptFor : List ℕ → List ℕ → Type 0
IsKeptFor kept front = (front ≡ kept) ⊎ (IsHopeless front × IsHopeless kept)

-- ---- which output answers what
-- the lines that the bytes end are answered by the output; they leave a zone, and the beginning of a line, for which the
-- rest is kept
pub record AnswersAfter (zone : Option Zone) (begun bytes output : List ℕ) (after : Option Zone) (rest : List ℕ) : Type 0 where
  pub pieces : List (List ℕ)
  pub front : List ℕ
  pub cut : IsSplit (begun ++ bytes) pieces front
  pub kept : IsKeptFor rest front
  pub answered : AnswersLines zone (ended_lines pieces) output after

-- this holds after each beginning of a line for which `begun` is kept
pub record Answered (zone : Option Zone) (begun bytes output : List ℕ) (after : Option Zone) (rest : List ℕ) : Type 0 where
  pub lone : HasNoNewline rest
  pub each : (front : List ℕ) → HasNoNewline front → IsKeptFor begun front → AnswersAfter zone front bytes output after rest

-- the answer to the line that ends after the bytes, if there is one
abbrev pub AnswersLast : Option Zone → List ℕ → List ℕ → Type 0
AnswersLast _ [] output = output ≡ []
AnswersLast zone (b ∷ bytes) output =
    (answer : List ℕ) × (after : Option Zone) × AnswersLine zone (b ∷ bytes) answer after × (output ≡ answer ++ codes "\n")

-- ---- what was written
-- whether the writer has failed, what it held before and holds now, and the zone
module _ (failed : Bool) (old new : Option (List ℕ)) (zone : Option Zone) where
  -- a line was answered, and the answer was written
  abbrev pub Replies : List ℕ → Option Zone → Type 0
  Replies line after = (failed ≡ false) × ((answer : List ℕ) × AnswersLine zone line answer after × Appends old new (answer ++ codes "\n"))

  -- how a line stopped the run: its answer was written in part, or could not be made
  abbrev pub StopsAt : List ℕ → RunError → Type 0
  StopsAt line errors.Write =
      (failed ≡ true) × (written : List ℕ) × (more : List ℕ) × (answer : List ℕ) × (after : Option Zone)
      × AnswersLine zone line answer after × (written ++ more ≡ answer ++ codes "\n") × Appends old new written
  StopsAt line errors.Memory = (failed ≡ false) × Appends old new []
  StopsAt line _ = ⊥

  -- the lines that the bytes end were answered, and the answers were written
  abbrev pub AnswersIn : List ℕ → List ℕ → Option Zone → List ℕ → Type 0
  AnswersIn begun bytes after rest = (failed ≡ false) × ((output : List ℕ) × Answered zone begun bytes output after rest × Appends old new output)

  -- how some bytes stopped the run: the answers to a front of the bytes were written, at `Write` in part
  abbrev pub StopsIn : List ℕ → List ℕ → RunError → Type 0
  StopsIn begun bytes errors.Write =
      (failed ≡ true) × (written : List ℕ) × (more : List ℕ) × (done : List ℕ) × (left : List ℕ) × (after : Option Zone) × (rest : List ℕ)
      × (bytes ≡ done ++ left) × Answered zone begun done (written ++ more) after rest × Appends old new written
  StopsIn begun bytes errors.Memory =
      (failed ≡ false) × (written : List ℕ) × (done : List ℕ) × (left : List ℕ) × (after : Option Zone) × (rest : List ℕ)
      × (bytes ≡ done ++ left) × (0 < length left) × Answered zone begun done written after rest × Appends old new written
  StopsIn begun bytes _ = ⊥

  -- the answer to the last line was written
  abbrev pub AnswersAtEnd : List ℕ → Type 0
  AnswersAtEnd begun = (failed ≡ false) × ((output : List ℕ) × AnswersLast zone begun output × Appends old new output)

  -- how the last line stopped the run: its answer was written in part or could not be sent, or it could not be made; or what
  -- was written before could not be sent
  abbrev pub StopsAtEnd : List ℕ → RunError → Type 0
  StopsAtEnd begun errors.Write =
      (failed ≡ true)
      × (((written : List ℕ) × (more : List ℕ) × AnswersLast zone begun (written ++ more) × Appends old new written) ⊎ Appends old new [])
  StopsAtEnd begun errors.Memory = (failed ≡ false) × (0 < length begun) × Appends old new []
  StopsAtEnd begun _ = ⊥

-- the outcome of the writing stays; or the writer, which had not failed, failed in sending
abbrev pub IsSentOf : Bool → Bool → Result (Unit {0}) RunError → Result (Unit {0}) RunError → Type 0
IsSentOf old new written result =
    ((result ≡ written) × (new ≡ old)) ⊎ ((result ≡ Err errors.Write) × (old ≡ false) × (new ≡ true))
