use Rattle.zonedump_lib.proofs.CitedWords.{FitsSigned, to_z-of_z, w64}
use Rattle.zonedump_lib.proofs.tables.changes_of.Goals as goal

pub returns : goal.returns
returns c =
    let from : FitsSigned w64 c.from.result = record { sfits = c.from.type_inv } in
    let until : FitsSigned w64 c.until.result = record { sfits = c.until.type_inv } in
    rw (c.from.ensures.value, c.until.ensures.value) at (rw (to_z-of_z from, to_z-of_z until) at c.changes.ensures)
