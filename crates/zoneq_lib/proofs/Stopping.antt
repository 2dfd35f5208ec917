-- What has been written when a step of a run goes on or stops, and when the run ends.
use Rattle.zoneq_lib.proofs.CitedWords.{Answered, Answers, AnswersAtEnd, AnswersIn, AnswersLine, Appends, Bool, Consumes, Err, HasNoNewline, IfErr, IsAtEnd}
use Rattle.zoneq_lib.proofs.CitedWords.{IsKeptFor, Keeps, List, MatchResult, None, Ok, OnOk, Option, Result, StopsAtEnd, StopsIn, StopsWith, Zone, append-nil}
use Rattle.zoneq_lib.proofs.CitedWords.{append_assoc, arith, codes, drop, false, inl, inr, length, length-append, refl, sym, take, take-add, take-append-drop}
use Rattle.zoneq_lib.proofs.CitedWords.{true, without_return, ℕ, [], ◌++◌, ◌<◌, ◌∷◌, ◌≡◌}
use Rattle.zoneq_lib.proofs.Covering.{answered_join, answered_line, answered_more, answers_all, answers_before, begins_answers, from_start}
use Rattle.zoneq_lib.specs.{Runs.{WritesUnlessFailed}, Steps.Outcomes.{IsSentOf, Replies, StopsAt}, declared.run_error.RunError.{RunError}}
use Rattle.std.proofs.KnownBytes.{Appends-kept, Appends-trans, Consumes-trans}
use Rattle.zoneq_lib.specs.declared.run_error.RunError.TheVariants as errors

-- a write of n more of the bytes
pub ruleset appends_more = (take-add, append_assoc)

-- an answer of which a part was written
pub reply_stops : (f : Bool) (a c : Option (List ℕ)) (z : Option Zone) (line bytes answer : List ℕ) (after : Option Zone) (r : Result (Unit {0}) RunError)
    → AnswersLine z line answer after → bytes ≡ answer ++ codes "\n"
    → IfErr r (λ e. (e ≡ errors.Write) × (f ≡ true) × ((n : ℕ) × Appends a c (take n bytes))) → IfErr r (StopsAt f a c z line)
reply_stops f a c z line bytes answer after (Ok u) h k stop = tt
reply_stops f a c z line bytes answer after (Err e) h k (is, failed, (n, part)) = grind (arith, take-append-drop n bytes)

-- what became of the last line's answer
pub last_is : (f : Bool) (a c : Option (List ℕ)) (z : Option Zone) (l : List ℕ) (r : Result (Unit {0}) RunError) (after : Option Zone) → 0 < length l
    → OnOk r (Replies f a c z l after) → IfErr r (StopsAt f a c z l) → OnOk r (AnswersAtEnd f a c z l) × IfErr r (StopsAtEnd f a c z l)
last_is f a c z [] r after some ok err = grind arith
last_is f a c z (x ∷ l) r after some ok err = grind arith

-- ---- a line of a block, after those that were answered
module _ {z : Option Zone} {b block done output : List ℕ} {m : Option Zone} {k : List ℕ} (rest : List ℕ) (e : block ≡ done ++ rest)
    (s : Answered z b done output m k) where
  -- it was answered too
  pub line_taken : (piece more answer : List ℕ) (next : Option Zone) (r : List ℕ) → HasNoNewline piece → rest ≡ piece ++ 10 ∷ more
      → AnswersLine m (without_return (k ++ piece)) answer next → r ≡ []
      → (block ≡ (done ++ (piece ++ codes "\n")) ++ more) × Answered z b (done ++ (piece ++ codes "\n")) (output ++ (answer ++ codes "\n")) next r
  line_taken piece more answer next r h cut line none =
      (grind (arith, append_assoc), rw none (answered_join s (answered_line m k piece h answer next line)))

  -- it stopped the run
  pub line_stops : (f : Bool) (a b' c : Option (List ℕ)) (piece more : List ℕ) (fault : RunError) → HasNoNewline piece → rest ≡ piece ++ 10 ∷ more
      → Appends a b' output → StopsAt f b' c m (without_return (k ++ piece)) fault → StopsIn f a c z b block fault
  line_stops f a b' c piece more errors.Write h cut wrote stop =
      let taken = line_taken piece more stop.3 stop.4 [] h cut stop.5 refl in
      let written : Answered z b (done ++ (piece ++ codes "\n")) ((output ++ stop.1) ++ stop.2) stop.4 [] = grind (arith, append_assoc) in
      grind (arith, append_assoc)
  line_stops f a b' c piece more fault h cut wrote stop = grind (arith, length-append, append-nil)

  -- what is after the last newline is kept, or counted
  pub rest_kept : (m' : Option Zone) (k' : List ℕ) → HasNoNewline rest → m' ≡ m → IsKeptFor k' (k ++ rest) → HasNoNewline k' → Answered z b block output m' k'
  rest_kept m' k' h same kept lone =
      rw (e, same) (rw append-nil at (answered_join s (answered_more m k rest h k' kept lone)))

-- ---- what became of the sending
module _ (f f' : Bool) (a b c : Option (List ℕ)) (z : Option Zone) where
  -- a block stopped the run, or the answers to it could not be sent
  pub block_not_sent : (begun block : List ℕ) (after : Option Zone) (rest : List ℕ) (o r : Result (Unit {0}) RunError)
      → IsSentOf f f' o r → Keeps b c → OnOk o (AnswersIn f a b z begun block after rest) → IfErr o (StopsIn f a b z begun block)
      → IfErr r (StopsIn f' a c z begun block)
  block_not_sent begun block after rest o r (inl same) keeps ok stop = grind arith
  block_not_sent begun block after rest (Ok u) r (inr lost) keeps ok stop =
      rw lost.0 (lost.2, ok.1.0, [], block, [], after, rest, sym (append-nil block), rw append-nil ok.1.1, Appends-kept _ _ _ _ ok.1.2 keeps)
  block_not_sent begun block after rest (Err errors.Memory) r (inr lost) keeps ok stop =
      rw lost.0 (lost.2, stop.1, [], stop.2, stop.3, stop.4, stop.5, stop.6, rw append-nil stop.8, Appends-kept _ _ _ _ stop.9 keeps)
  block_not_sent begun block after rest (Err e) r (inr lost) keeps ok stop = grind arith

  -- the last line stopped the run, or what was written could not be sent
  pub last_not_sent : (l : List ℕ) (o r : Result (Unit {0}) RunError) → IsSentOf f f' o r → Keeps b c → OnOk o (AnswersAtEnd f a b z l)
      → IfErr o (StopsAtEnd f a b z l) → IfErr r (StopsAtEnd f' a c z l)
  last_not_sent l (Ok u) r sent keeps ok stop = grind (arith, append-nil)
  last_not_sent l (Err e) r sent keeps ok stop = grind arith

-- ---- the message of a program
module _ (f : Bool) (a b : Option (List ℕ)) (bytes text more : List ℕ) (same : bytes ≡ text) where
  -- a beginning of two texts was written
  pub told_in_part : (n : ℕ) → f ≡ true → Appends a b (take n bytes) → WritesUnlessFailed f a b (text ++ more)
  told_in_part n failed h = rw (← same) (grind (arith, take-append-drop n bytes, append_assoc (take n bytes) (drop n bytes) more))

  -- the first of two texts was written, and then the second, or a beginning of it
  pub told : (c : Option (List ℕ)) (r : Result (Unit {0}) RunError) → Appends a b bytes → OnOk r ((f ≡ false) × Appends b c more)
      → IfErr r (λ e. (e ≡ errors.Write) × (f ≡ true) × ((n : ℕ) × Appends b c (take n more))) → WritesUnlessFailed f a c (text ++ more)
  told c (Ok u) h ok stop = rw (← same) (grind (arith, append-nil (bytes ++ more), append_assoc))
  told c (Err e) h ok (is, failed, (n, part)) =
      rw (← same) (grind (arith, take-append-drop n more, append_assoc bytes (take n more), append_assoc))

-- ---- the end of a run, after the input that was answered
module _ (rf wf : Bool) (n : ℕ) (ra rb rc wa wb wc : Option (List ℕ)) (input output : List ℕ) (z : Option Zone) (rest : List ℕ) (works : rf ≡ false)
    (took : Consumes ra rb input) (wrote : Appends wa wb output) (s : Answered None [] input output z rest) where
  -- a block stopped the run
  pub block_stopped : (block : List ℕ) (e : RunError) → Consumes rb rc block → StopsIn wf wb wc z rest block e
      → (x : List ℕ) × (y : List ℕ) × Consumes ra rc x × Appends wa wc y × StopsWith rf wf n e x y
  block_stopped block errors.Write took' stop =
      let joined = answered_join s stop.8 in
      grind (arith, append_assoc, begins_answers (input ++ stop.3) stop.4 (output ++ stop.1) stop.2 stop.5 stop.6)
  block_stopped block errors.Memory took' stop =
      let before = answers_before stop.3 stop.7 (answered_join s stop.8) in
      let read = Consumes-trans _ _ _ _ _ took took' in let written = Appends-trans _ _ _ _ _ wrote stop.9 in
      grind (arith, append_assoc input stop.2 stop.3)
  block_stopped block e took' stop = absurd stop

  -- the last line stopped the run
  last_stopped : (e : RunError) → StopsAtEnd wf wb wc z rest e → (y : List ℕ) × Appends wa wc y × StopsWith rf wf n e input y
  last_stopped errors.Write (failed, inl part) = grind (arith, append_assoc, answers_all (part.0 ++ part.1) (from_start s) part.2)
  last_stopped errors.Write (failed, inr none) = grind (arith, append-nil, begins_answers input [] output [] z rest)
  last_stopped e stop = let first = from_start s in grind (arith, append-nil)

  -- the reader ended
  pub reader_ended : (re : Bool) (r : Result (Unit {0}) RunError) → re ≡ true → IsAtEnd rc → Consumes rb rc [] → OnOk r (AnswersAtEnd wf wb wc z rest)
      → IfErr r (StopsAtEnd wf wb wc z rest)
      → (x : List ℕ) × (y : List ℕ) × Consumes ra rc x × Appends wa wc y
      × MatchResult r (λ _. (re ≡ true) × IsAtEnd rc × (rf ≡ false) × (wf ≡ false) × Answers x y) (λ e. StopsWith rf wf n e x y)
  reader_ended re (Ok u) ended at_end took' ok err = grind (arith, append_assoc, answers_all ok.1.0 (from_start s) ok.1.1)
  reader_ended re (Err e) ended at_end took' ok err = grind (arith, last_stopped e err)
