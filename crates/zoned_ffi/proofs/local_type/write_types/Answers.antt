use Rattle.zoned_ffi.proofs.{Words.{Fits64, IsWrittenTypeAt, arith, get_or, length-set, pos, rules, to_z-of_z, ◌∙◌}, Slices.{zip_more}}
use Rattle.zoned_ffi.proofs.local_type.write_types.Goals as goal

pub loop-i-preserved : goal.loop-i-preserved
loop-i-preserved c =
    let at = c.loop-i in
    let asked : Fits64 (get_or c.args.instants.now at.i (pos 0)) = search rules in
    let same = at.invariant.0 in
    let told = rw same at (simp to_z-of_z at c.next.ensures.written) in (
      c.next.ensures.zone ∙ same,
      length-set at.types at.i c.next.result ∙ at.invariant.1,
      zip_more (IsWrittenTypeAt c.args.zone.now) _ _ at.i _ at.invariant.1 (omega arith) at.invariant.2 told,
    )
