use Rattle.zoned_ffi.proofs.{Words.{Fits64, FitsSigned, ap, no_type, per_second, pos, rules, to_z-of_z, w32, ℤ, ◌*ℤ◌, ◌∙◌}, Columns.{looked_up}}
use Rattle.zoned_ffi.proofs.column.row.local_of.Goals as goal

pub returns-in-Ok : goal.returns-in-Ok
returns-in-Ok c =
    let x = c.ranges.instant in let u : Fits64 c.second_of.result = search rules in
    let o : FitsSigned w32 c.offset.result = search rules in let n : Fits64 c.counts_of.result = search rules in
    let second = simp to_z-of_z at c.second_of.ensures in let found = simp to_z-of_z at c.in-Ok.ensures in
    let in_force = rw second at found in
    let counts = (simp to_z-of_z at c.counts_of.ensures.value) ∙ ap (λ (k : ℤ). k *ℤ pos (per_second c.args.unit)) c.offset.ensures.value in
    looked_up _ _ _ _ c.in-Ok.found.now c.added.result in_force counts (simp to_z-of_z at c.added.ensures)

pub returns-in-Err : goal.returns-in-Err
returns-in-Err c =
    let x = c.ranges.instant in let u : Fits64 c.second_of.result = search rules in
    let second = simp to_z-of_z at c.second_of.ensures in let refused = simp to_z-of_z at c.in-Err.ensures.0 in
    no_type (rw second at refused)
