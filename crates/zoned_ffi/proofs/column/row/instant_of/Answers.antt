use Rattle.zoned_ffi.proofs.{Words.{Fits64, IsNoInstant, None, Some, ap, arith, rules, to_z-of_z}, Columns.{instant_told}}
use Rattle.zoned_ffi.proofs.column.row.instant_of.Goals as goal

pub returns-in-Some-instant_taken : goal.returns-in-Some-instant_taken
returns-in-Some-instant_taken c =
    let local = c.ranges.local in let u : Fits64 c.second_of.result = search rules in
    let i : Fits64 c.in-Some-instant_taken.instant = search rules in
    let second = simp to_z-of_z at c.second_of.ensures in let stamp = simp to_z-of_z at c.in-Some.ensures in
    let taken = rw (ap (λ r. r.s) stamp.1, second) at c.in-Ok.ensures in
    simp to_z-of_z (instant_told _ _ _ _ _ (Some c.in-Some-instant_taken.instant) (rw second at stamp.0.0) taken
    (simp to_z-of_z at c.in-Some-instant_taken.ensures))

pub returns-in-None : goal.returns-in-None
returns-in-None c =
    let local = c.ranges.local in let u : Fits64 c.second_of.result = search rules in
    let second = simp to_z-of_z at c.second_of.ensures in let stamp = simp to_z-of_z at c.in-Some.ensures in
    let taken = rw (ap (λ r. r.s) stamp.1, second) at c.in-Ok.ensures in
    instant_told _ _ _ _ _ None (rw second at stamp.0.0) taken
    (simp to_z-of_z at c.in-None.ensures)

pub returns-in_default : goal.returns-in_default
returns-in_default c = grind (arith, to_z-of_z, IsNoInstant.outside)

pub returns-in-Err : goal.returns-in-Err
returns-in-Err c = grind (arith, to_z-of_z, IsNoInstant.refused)
