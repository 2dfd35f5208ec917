use Rattle.zoned_ffi.proofs.{Words.{Fits64, FitsSigned, ap, rules, to_z-of_z, w32}, Resolving.{reached_by}}
use Rattle.zoned_ffi.proofs.resolved.Resolved.first_at_or_after.Goals as goal

pub returns : goal.returns
returns c =
    let found = c.find_first_at_or_after-reached.result in let at : Fits64 found.at = search rules in
    let offset : FitsSigned w32 c.offset.result = search rules in let local = c.ranges.local in
    let stamp = simp to_z-of_z at c.in-Some.ensures in
    reached_by _ _ _ _ _ stamp.0.0 (rw (ap (λ r. r.s) stamp.1) at c.find_first_at_or_after-reached.ensures)
    (rw c.offset.ensures.value at (simp to_z-of_z at c.within.ensures))
