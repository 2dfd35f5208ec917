use Rattle.zoned_ffi.proofs.{Words.{Fits64, FitsSigned, rules, to_z-of_z, w128, w32}, Columns.{instants_kept}}
use Rattle.zoned_ffi.proofs.column.kept.instants_in.Goals as goal

pub returns : goal.returns
returns c =
    let s = c.args.stretch in
    let from : Fits64 s.from = search rules in let until : Fits64 s.until = search rules in
    let offset : FitsSigned w32 s.offset = search rules in let begin : FitsSigned w128 c.counts_at.result = search rules in
    let end : FitsSigned w128 c.counts_at-2.result = search rules in let add : Fits64 c.counts_of.result = search rules in
    instants_kept _ _ s _ _ _ _ c.requires (simp to_z-of_z at c.counts_at.ensures.value) (simp to_z-of_z at c.counts_at-2.ensures.value)
    (simp to_z-of_z at c.counts_of.ensures.value) (simp to_z-of_z at c.between.ensures)
