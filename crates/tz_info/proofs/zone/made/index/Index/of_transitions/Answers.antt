use Rattle.tz_info.proofs.{EntryLaws.own_entries, TableLaws.table_listed, Words.{arith, zone_in}}
use Rattle.tz_info.proofs.zone.made.index.Index.of_transitions.Goals as goal

pub pieces_in_one_pass-requires-clause-table : goal.pieces_in_one_pass-requires-clause-table
pieces_in_one_pass-requires-clause-table c = rw (c.segment_count-count.ensures, c.requires.listed) (table_listed _ c.requires.valid (grind arith))

pub returns : goal.returns
returns c = (
  rw c.requires.listed (own_entries (zone_in c.args.lists) c.requires.valid (grind arith)
      (rw c.in-Some.is at c.in_ok-pieces.ensures).2),
  c.in_ok-index.ensures,
)
