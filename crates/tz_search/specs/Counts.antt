-- Counts of the probes of lookups.
use Rattle.std.specs.Prelude.{ℕ, ◌≡◌, ◌+◌, ◌^◌, ◌<◌, ◌≤◌}

-- the number of transition probes, of questions to rules, and of piece probes
pub record Counts : Type 0 where
  pub reads : ℕ
  pub rule_questions : ℕ
  pub piece_reads : ℕ

-- counts that a lookup may start from
pub record HasRoom (c : Counts) : Type 0 where
  pub reads : c.reads < 2 ^ 120
  pub rule_questions : c.rule_questions < 2 ^ 120
  pub piece_reads : c.piece_reads < 2 ^ 120

-- the counts rose by at most that many transition probes and rule questions, and by no piece probe
pub record RoseWithin (before after : Counts) (reads rule_questions : ℕ) : Type 0 where
  pub reads_kept : before.reads ≤ after.reads
  pub reads_most : after.reads ≤ before.reads + reads
  pub questions_kept : before.rule_questions ≤ after.rule_questions
  pub questions_most : after.rule_questions ≤ before.rule_questions + rule_questions
  pub pieces_same : after.piece_reads ≡ before.piece_reads

-- the counts rose by at most that many piece probes and rule questions, and by no transition probe
pub record RoseByPieces (before after : Counts) (piece_reads rule_questions : ℕ) : Type 0 where
  pub reads_same : after.reads ≡ before.reads
  pub pieces_kept : before.piece_reads ≤ after.piece_reads
  pub pieces_most : after.piece_reads ≤ before.piece_reads + piece_reads
  pub questions_kept : before.rule_questions ≤ after.rule_questions
  pub questions_most : after.rule_questions ≤ before.rule_questions + rule_questions
