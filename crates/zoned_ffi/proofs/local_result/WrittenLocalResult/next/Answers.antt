use Rattle.zoned_ffi.proofs.{Words.{FitsSigned, rules, to_z-of_z, w32}, HeldTimes.{once_told}}
use Rattle.zoned_ffi.proofs.local_result.WrittenLocalResult.next.Goals as goal

pub returns-in-Some-clause-written : goal.returns-in-Some-clause-written
returns-in-Some-clause-written c =
    let local = c.ranges.local in let offset : FitsSigned w32 c.in-Some.offset = search rules in
    once_told _ _ _ _ (simp to_z-of_z at c.in-Some.ensures.offset) (simp to_z-of_z at c.between.ensures)
