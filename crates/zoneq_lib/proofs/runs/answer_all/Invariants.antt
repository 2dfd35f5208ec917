use Rattle.zoneq_lib.proofs.CitedWords.{Answered, Appends, Consumes, List, None, false, length, ℕ, [], ◌<◌, ◌^◌, ◌≡◌, ◌≤◌}
use Rattle.zoneq_lib.proofs.runs.answer_all.Given as goal

abbrev pub invariant-loop : goal.invariant-loop
invariant-loop g l = record {
  reader_works : l.reader.failed ≡ false;
  goes_on : l.reader.ended ≡ false;
  writer_works : l.writer.failed ≡ false;
  sent : l.fn.writer.unsent ≡ false → l.writer.unsent ≡ false;
  room : 0 < length l.block;
  bounded : 0 < l.counter → l.reader.reads < 2 ^ 64;
  counted : l.counter ≤ l.reader.reads;
  answered : (input : List ℕ) × (output : List ℕ)
      × Consumes (g.R.Read.remaining l.fn.reader.inner) (g.R.Read.remaining l.reader.inner) input
      × Appends (g.W.Write.contents l.fn.writer.inner) (g.W.Write.contents l.writer.inner) output
      × Answered None [] input output l.dialogue.zone l.dialogue.begun.items;
}
