use Rattle.zoned_ffi.proofs.{Columns.{stop_if_any}, Words.{AreWritten}}
use Rattle.zoned_ffi.proofs.column.write_column.Goals as goal

pub returns-else-row-times : goal.returns-else-row-times
returns-else-row-times c =
    let q = c.args.question in let new = c.write_long.new.answers in
    stop_if_any q c.args.times.now c.args.answers.now c.write_short.new.answers new (AreWritten q c.args.times.now new) c.in-Ok.row c.write_long.result
    c.write_long.ensures c.in-Ok.ensures.answered.3
