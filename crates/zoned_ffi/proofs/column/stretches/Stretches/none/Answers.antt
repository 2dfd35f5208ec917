use Rattle.zoned_ffi.proofs.{Columns.{same_at}, Words.{Fits64, rules, to_z-of_z}}
use Rattle.zoned_ffi.proofs.column.stretches.Stretches.none.Goals as goal

pub returns : goal.returns
returns c = λ i below.
    let low : Fits64 c.none-low.result.low = search rules in let add : Fits64 c.none-low.result.add = search rules in
    same_at c.args.question _ _ _ i below (simp to_z-of_z c.none-low.ensures)
