use Rattle.zoned_ffi.proofs.{Words.{Fits64, FitsSigned, arith, ints, rules, to_z-of_z, w128, ◌-ℤ◌}, Columns.{greatest, least, lie_within}}
use Rattle.zoned_ffi.proofs.column.kept.Kept.between.Goals as goal

pub returns : goal.returns
returns c =
    let add = c.ranges.add in let from = c.ranges.from in
    let until = c.ranges.until in let first : FitsSigned w128 c.max-first.result = search rules in
    let last : FitsSigned w128 c.min-last.result = search rules in let low : FitsSigned w128 c.max-low.result = search rules in
    let high : FitsSigned w128 c.min-high.result = search rules in
    let wide : FitsSigned w128 c.args.add = omega (arith, ints) in
    let below : FitsSigned w128 (least -ℤ c.args.add) = omega (arith, ints) in
    let above : FitsSigned w128 (greatest -ℤ c.args.add) = omega (arith, ints) in
    let a₂ = simp to_z-of_z at c.max-first.ensures.other_bound in
    let b = simp to_z-of_z at c.max-low.ensures.self_bound in let b₂ = simp to_z-of_z at c.max-low.ensures.other_bound in
    let d₂ = simp to_z-of_z at c.min-last.ensures.other_bound in
    let e = simp to_z-of_z at c.min-high.ensures.self_bound in let e₂ = simp to_z-of_z at c.min-high.ensures.other_bound in
    let less = simp to_z-of_z at c.if-high-low.false in
    let fits_low : Fits64 c.max-low.result = omega (arith, ints) in
    let fits_high : Fits64 c.min-high.result = omega (arith, ints) in
    let begin = simp to_z-of_z at c.from_until.ensures.begin in
    let length = (simp to_z-of_z at c.from_until.ensures.end) (omega (arith, ints)) in
    lie_within _ _ _ _ _ _ begin.0 length begin.1 (omega (arith, ints)) (omega (arith, ints)) (omega (arith, ints))
    (omega (arith, ints)) (omega (arith, ints)) (omega (arith, ints))
