use Rattle.zoned_ffi.proofs.{Words.{arith}, Columns.{stop_after}, Slices.{same_after}}
use Rattle.zoned_ffi.proofs.column.write_long.Goals as goal

pub loop-from-preserved-then-written-gt0 : goal.loop-from-preserved-then-written-gt0
loop-from-preserved-then-written-gt0 c = grind (arith, same_after)

pub returns-in-Some : goal.returns-in-Some
returns-in-Some c =
    let h = c.in-Some.ensures.answered in
    let stop = stop_after c.args.question _ _ c.write_run-written.new.answers _ _ c.loop-from.from h.1 h.0 (grind (arith, same_after)) in
    (omega (arith, h.0, c.loop-from.invariant.5), stop)

pub loop-from-preserved : goal.loop-from-preserved
loop-from-preserved c = grind (arith, same_after)
