use Rattle.tz_info.proofs.TableLaws.{table_of}
use Rattle.tz_info.proofs.zone.made.index.Index.new.Goals as goal

pub pieces_in_one_pass-requires-clause-table : goal.pieces_in_one_pass-requires-clause-table
pieces_in_one_pass-requires-clause-table c = rw (c.items-entries.ensures, c.segment_count-count.ensures) (table_of _ _ c.requires.valid c.requires.list)

pub pieces_of-requires-clause-table : goal.pieces_of-requires-clause-table
pieces_of-requires-clause-table c = rw (c.items-entries.ensures, c.segment_count-count.ensures) (table_of _ _ c.requires.valid c.requires.list)
