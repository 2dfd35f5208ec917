use Rattle.zoned_ffi.proofs.{Words.{Fits64, FitsSigned, rules, to_z-of_z, w32, ◌∙◌}, HeldTimes.{once_resolved}}
use Rattle.zoned_ffi.proofs.resolved.Resolved.next.Goals as goal

pub returns-in-Some-clause-written : goal.returns-in-Some-clause-written
returns-in-Some-clause-written c =
    let local = c.ranges.local in let offset : FitsSigned w32 c.in-Some.offset = search rules in
    let instant : Fits64 c.instant_by.result = search rules in
    let at = simp to_z-of_z at c.instant_by.ensures in
    once_resolved _ c.args.choice _ _ _ (simp to_z-of_z at c.in-Some.ensures.offset) (rw at at (simp to_z-of_z at c.within.ensures))

pub returns-in-None-clause-written : goal.returns-in-None-clause-written
returns-in-None-clause-written c =
    let local = c.ranges.local in
    rw (c.zone.ensures ∙ c.offset_of.ensures.zone) at (simp to_z-of_z at c.at.ensures)
