use Rattle.zoned_ffi.{proofs.Words.{arith, Fits64, FitsSigned, rules, to_z-of_z, w128, ◌∙◌}, specs.Columns.{IsNoWholeSecondOf}}
use Rattle.zoned_ffi.proofs.column.row.whole_second_of.Goals as goal

pub returns-in-Some : goal.returns-in-Some
returns-in-Some c =
    let instant = c.ranges.instant in let second : Fits64 c.second_of-second.result = search rules in
    let v : Fits64 c.in-Ok.found = search rules in let y : Fits64 c.in-Some.time = search rules in
    let at = simp to_z-of_z at c.second_of-second.ensures in let before = simp to_z-of_z at c.nanos_after-nanos.ensures.before in
    let n : FitsSigned w128 c.counts_at.result = search rules in
    let told = simp to_z-of_z at c.in-Ok.ensures in let counts = simp to_z-of_z at c.counts_at.ensures.value in
    let counted = simp to_z-of_z at c.in-Some.ensures in
    let found = rw (before, at) at told in
    simp to_z-of_z (record { second = c.in-Ok.found; found = found; counts = counted.0 ∙ counts; counted = counted.1 })

pub returns-in-None : goal.returns-in-None
returns-in-None c =
    let instant = c.ranges.instant in let second : Fits64 c.second_of-second.result = search rules in
    let v : Fits64 c.in-Ok.found = search rules in
    let at = simp to_z-of_z at c.second_of-second.ensures in let before = simp to_z-of_z at c.nanos_after-nanos.ensures.before in
    let n : FitsSigned w128 c.counts_at.result = search rules in
    let told = simp to_z-of_z at c.in-Ok.ensures in let counts = simp to_z-of_z at c.counts_at.ensures.value in
    let found = rw (before, at) at told in
    IsNoWholeSecondOf.uncounted c.in-Ok.found found (rw counts at (simp to_z-of_z at c.in-None.ensures))

pub returns-in-Err : goal.returns-in-Err
returns-in-Err c = grind (arith, to_z-of_z, IsNoWholeSecondOf.not_found)
