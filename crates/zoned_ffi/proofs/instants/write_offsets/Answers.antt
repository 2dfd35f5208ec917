use Rattle.zoned_ffi.proofs.{Words.{Fits64, FitsSigned, IsWrittenOffsetAt, arith, get_or, length-set, pos, rules, to_z-of_z, w32, ◌∙◌}, Slices.{zip_more}}
use Rattle.zoned_ffi.proofs.instants.write_offsets.Goals as goal

pub loop-i-preserved : goal.loop-i-preserved
loop-i-preserved c =
    let at = c.loop-i in let offset = c.next_offset.result in
    let instant : Fits64 (get_or c.args.instants.now at.i (pos 0)) = search rules in
    let fits : FitsSigned w32 offset = search rules in
    let same = at.invariant.0 in
    let told = rw same at (simp to_z-of_z at c.next_offset.ensures.written) in
    simp to_z-of_z (
      c.next_offset.ensures.zone ∙ same,
      length-set at.offsets at.i offset ∙ at.invariant.1,
      zip_more (IsWrittenOffsetAt c.args.zone.now) _ _ at.i _ at.invariant.1 (omega arith) at.invariant.2 told,
    )
