use Rattle.zoned_ffi.proofs.{Words.{Fits64, FitsSigned, ap, arith, ints, neg_ℤ, rules, to_z-of_z, w128, w32, ◌+ℤ◌, ◌∙◌}, Columns.{local_times_kept}}
use Rattle.zoned_ffi.proofs.column.kept.local_times_in.Goals as goal

pub overflow_add-first : goal.overflow_add-first
overflow_add-first c = grind (arith, ints, to_z-of_z)

pub overflow_add-end : goal.overflow_add-end
overflow_add-end c =
    let p : FitsSigned w128 c.counts_at-2.result = search rules in let q : Fits64 c.counts_of-least.result = search rules in
    let wide : FitsSigned w128 c.counts_of-least.result = omega (arith, ints) in
    simp to_z-of_z (omega (arith, ints))

pub between-requires : goal.between-requires
between-requires c =
    let o : Fits64 c.counts_of.result = search rules in let m : Fits64 c.less.result = search rules in
    let is = simp to_z-of_z at c.less.ensures in
    (omega (arith, ints), omega (arith, ints))

pub returns : goal.returns
returns c =
    let s = c.args.stretch in
    let offset : FitsSigned w32 s.offset = search rules in let fits_from : Fits64 s.from = search rules in
    let fits_until : Fits64 s.until = search rules in let low : FitsSigned w32 c.least_offset.result = search rules in
    let high : FitsSigned w32 c.greatest_offset.result = search rules in let p : FitsSigned w128 c.counts_at.result = search rules in
    let q : Fits64 c.counts_of-greatest.result = search rules in let r : FitsSigned w128 c.counts_at-2.result = search rules in
    let t : Fits64 c.counts_of-least.result = search rules in let f : FitsSigned w128 c.counts_at-3.result = search rules in
    let e : FitsSigned w128 c.counts_at-4.result = search rules in let g : FitsSigned w128 c.max.result = search rules in
    let l : FitsSigned w128 c.min.result = search rules in let o : Fits64 c.counts_of.result = search rules in
    let m : Fits64 c.less.result = search rules in
    let q_wide : FitsSigned w128 c.counts_of-greatest.result = omega (arith, ints) in
    let t_wide : FitsSigned w128 c.counts_of-least.result = omega (arith, ints) in
    let first : FitsSigned w128 (c.counts_at.result +ℤ c.counts_of-greatest.result) = omega (arith, ints) in
    let end : FitsSigned w128 (c.counts_at-2.result +ℤ c.counts_of-least.result) = omega (arith, ints) in
    local_times_kept _ _ c.args.choice c.args.missing s _ _ _ _ _ _ _ _ _ _ _ _ c.requires fits_from fits_until c.least_offset.ensures c.greatest_offset.ensures
    (simp to_z-of_z at c.counts_at.ensures.value) (simp to_z-of_z at c.counts_of-greatest.ensures.value)
    (simp to_z-of_z at c.counts_at-2.ensures.value) (simp to_z-of_z at c.counts_of-least.ensures.value)
    c.counts_at-3.ensures.value c.counts_at-4.ensures.value
    ((simp to_z-of_z at c.less.ensures) ∙ ap neg_ℤ (simp to_z-of_z at c.counts_of.ensures.value))
    (simp to_z-of_z at c.max.ensures.self_bound) (simp to_z-of_z at c.max.ensures.other_bound)
    (simp to_z-of_z at c.min.ensures.self_bound) (simp to_z-of_z at c.min.ensures.other_bound) (simp to_z-of_z at c.between.ensures)
