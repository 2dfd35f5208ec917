use Rattle.zoned_ffi.proofs.{Columns.{or_ge_l, or_ge_r, within_more}, Words.{Fits64, arith, get_or, pos, rules, to_z-of_z}}
use Rattle.zoned_ffi.proofs.column.block.are_at_front.Goals as goal

pub loop-row-preserved : goal.loop-row-preserved
loop-row-preserved c = λ less.
    let at = c.loop-row in let distance = c.distance_to-bits in
    let before = or_ge_l at.bits distance.result in let this = or_ge_r at.bits distance.result in
    let fits : Fits64 (get_or c.args.times.now at.row (pos 0)) = search rules in
    let near = (simp to_z-of_z at distance.ensures).0 (omega arith) in
    within_more c.args.times.now c.args.from at.row c.args.kept (at.invariant (omega arith)) near
