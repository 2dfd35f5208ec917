use Rattle.tz_info.proofs.{TzFileLaws.{contents_fault, lists_fault, made_fault, made_found, pieces_fault}, Words.{arith, err_from_is_err_and}}
use Rattle.tz_file.proofs.FilePieceLaws.{end_file, has_pieces}
use Rattle.tz_info.proofs.file.reader.read_zone.Goals as goal

pub returns-in_err-pieces-clause-fault : goal.returns-in_err-pieces-clause-fault
returns-in_err-pieces-clause-fault c = grind (arith, err_from_is_err_and, pieces_fault)

pub read_lists-requires : goal.read_lists-requires
read_lists-requires c = rw c.remaining-bytes.ensures (end_file _ _ (has_pieces _ _ _ c.in_ok-pieces.ensures))

pub returns-in_err-lists-clause-fault : goal.returns-in_err-lists-clause-fault
returns-in_err-lists-clause-fault c = grind (arith, contents_fault, err_from_is_err_and)

pub from_fault_of_lists-requires : goal.from_fault_of_lists-requires
from_fault_of_lists-requires c = rw c.remaining-bytes.ensures (end_file _ _ (has_pieces _ _ _ c.in_ok-pieces.ensures))

pub returns-in-Err-clause-fault : goal.returns-in-Err-clause-fault
returns-in-Err-clause-fault c = grind (arith, lists_fault)

pub returns-clause-found : goal.returns-clause-found
returns-clause-found c = made_found _ _ _ c.in_ok-pieces.ensures _ _ c.in_ok-lists.ensures (grind arith) _ c.into_zone.ensures

pub returns-clause-fault : goal.returns-clause-fault
returns-clause-fault c = made_fault _ _ _ c.in_ok-pieces.ensures _ _ c.in_ok-lists.ensures (grind arith) _ c.into_zone.ensures _
