use Rattle.zoned_ffi.proofs.{Words.{append_assoc, arith, inl, inr, length-append, to_z-of_z}, ChangesWritten.{first_written, more_written, place_fits}}
use Rattle.zoned_ffi.proofs.changes.write_changes.Goals as goal

pub overflow_add-count : goal.overflow_add-count
overflow_add-count c = grind (arith, to_z-of_z, place_fits, length-append)

pub loop-change-preserved : goal.loop-change-preserved
loop-change-preserved c = grind (arith, to_z-of_z, more_written, length-append, append_assoc)

pub returns-then-count-most : goal.returns-then-count-most
returns-then-count-most c =
    let from = c.ranges.from in let until = c.ranges.until in
    let before = simp to_z-of_z at c.loop-change.invariant in
    first_written _ _ _ _ _ _ _ _ _ before.5 before.2 before.3 (inl c.if-count-most.true) before.4

pub returns : goal.returns
returns c =
    let from = c.ranges.from in let until = c.ranges.until in
    let before = simp to_z-of_z at c.loop-change.invariant in
    first_written _ _ _ _ _ _ _ _ _ before.5 before.2 before.3 (inr c.in-None.ensures.steps.0) before.4
