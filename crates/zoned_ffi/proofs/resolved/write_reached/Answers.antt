use Rattle.zoned_ffi.proofs.{Words.{Fits64, IsReachedAt, arith, get_or, length-set, pos, rules, to_z-of_z, ◌∙◌}, Slices.{zip_more}}
use Rattle.zoned_ffi.proofs.resolved.write_reached.Goals as goal

pub loop-i-preserved : goal.loop-i-preserved
loop-i-preserved c =
    let at = c.loop-i in
    let asked : Fits64 (get_or c.args.locals.now at.i (pos 0)) = search rules in
    let told = simp to_z-of_z at c.first_at_or_after.ensures in (
      length-set at.reached at.i c.first_at_or_after.result ∙ at.invariant.0,
      zip_more (IsReachedAt c.args.zone.now) _ _ at.i _ at.invariant.0 (omega arith) at.invariant.1 told,
    )
