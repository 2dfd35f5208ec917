use Rattle.zoneq_lib.proofs.CitedWords.{Answered, Appends, List, false, length, ℕ, ◌++◌, ◌≡◌}
use Rattle.zoneq_lib.proofs.dialogue.Dialogue.answer_lines.Given as goal

abbrev pub invariant-loop-piece : goal.invariant-loop-piece
invariant-loop-piece g l = record {
  works : l.writer.failed ≡ false;
  answered : (done : List ℕ) × (output : List ℕ) × (l.block ≡ done ++ l.rest)
      × Answered l.fn.self.zone l.fn.self.begun.items done output l.self.zone l.self.begun.items
      × Appends (g.W.Write.contents l.fn.writer.inner) (g.W.Write.contents l.writer.inner) output;
}

abbrev pub decreases-loop-piece : goal.decreases-loop-piece
decreases-loop-piece g l = length l.rest
