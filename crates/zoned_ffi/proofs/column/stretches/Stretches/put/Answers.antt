use Rattle.std.proofs.lemmas.{Bool.{cases_eq}, List.{get_or-set_other, get_or-set_same}}
use Rattle.zoned_ffi.proofs.Words.{Fits64, arith, rules, to_z-of_z}
use Rattle.zoned_ffi.proofs.column.stretches.Stretches.put.Goals as goal

pub returns-clause-kept : goal.returns-clause-kept
returns-clause-kept c = λ i below.
    let kept = c.args.kept in
    let low : Fits64 kept.low = search rules in let add : Fits64 kept.add = search rules in
    simp to_z-of_z (grind (arith, cases_eq i c.args.place, get_or-set_other, get_or-set_same, c.requires.kept i below))
