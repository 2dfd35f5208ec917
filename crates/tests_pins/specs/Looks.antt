-- Counts of looks.
use Rattle.std.specs.Prelude.{ℕ}
use Rattle.tz_search.specs.Counts.{Counts}

-- that many probes of transitions, questions to rules, and probes of pieces
abbrev pub looks : ℕ → ℕ → ℕ → Counts
looks reads questions pieces = record {
  reads = reads;
  rule_questions = questions;
  piece_reads = pieces;
}
