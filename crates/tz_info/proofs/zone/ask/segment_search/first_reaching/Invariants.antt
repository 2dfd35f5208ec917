use Rattle.tz_info.{proofs.Words.{digits, length, suc, ◌+◌, ◌<◌, ◌≡◌, ◌≤◌}, specs.Steps.SegmentEnds.IsReached}
use Rattle.tz_info.proofs.zone.ask.segment_search.first_reaching.Given as goal

abbrev pub invariant-loop-count : goal.invariant-loop-count
invariant-loop-count l = record {
  within : l.first + l.count ≤ length l.changes.items;
  before : IsReached l.types l.changes.items l.first l.local → ⊥;
  here : l.first + l.count < length l.changes.items → IsReached l.types l.changes.items (suc (l.first + l.count)) l.local;
  kept : l.fn.probes.reads ≤ l.probes.reads;
  most : l.probes.reads + digits l.count ≤ l.fn.probes.reads + digits (length l.changes.items);
  questions : l.probes.rule_questions ≡ l.fn.probes.rule_questions;
  pieces : l.probes.piece_reads ≡ l.fn.probes.piece_reads;
}

abbrev pub decreases-loop-count : goal.decreases-loop-count
decreases-loop-count l = l.count
