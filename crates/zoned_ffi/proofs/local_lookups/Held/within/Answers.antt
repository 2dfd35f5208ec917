use Rattle.zoned_ffi.proofs.{Words.{Fits64, FitsSigned, IsUtOffset, arith, refl, rules, to_z-of_z, w32}, HeldTimes.{held_of}}
use Rattle.zoned_ffi.proofs.local_lookups.Held.within.Goals as goal

pub returns-then-not-is_offset : goal.returns-then-not-is_offset
returns-then-not-is_offset c = c.none.ensures c.args.zone.now

pub returns : goal.returns
returns c =
    let s = c.args.stretch in
    let offset : FitsSigned w32 s.offset = search rules in let from : Fits64 s.from = search rules in
    let until : Fits64 s.until = search rules in let low : FitsSigned w32 c.least_offset.result = search rules in
    let high : FitsSigned w32 c.greatest_offset.result = search rules in let p : Fits64 c.from.result = search rules in
    let q : Fits64 c.from-2.result = search rules in let a : Fits64 c.saturating_add-first.result = search rules in
    let b : Fits64 c.saturating_add-end.result = search rules in let g : Fits64 c.max.result = search rules in
    let l : Fits64 c.min.result = search rules in
    let more = simp to_z-of_z at c.from.ensures in let less = simp to_z-of_z at c.from-2.ensures in
    let first = simp to_z-of_z at c.saturating_add-first.ensures in let end = simp to_z-of_z at c.saturating_add-end.ensures in
    let told = simp to_z-of_z at c.is_offset.ensures in let bound : IsUtOffset s.offset = grind arith in
    simp to_z-of_z (held_of _ s _ _ _ _ _ c.requires from until c.least_offset.ensures c.greatest_offset.ensures
    bound (rw more at first) (rw less at end) (simp to_z-of_z at c.max.ensures.self_bound) c.max.ensures.other_bound
    (simp to_z-of_z at c.min.ensures.self_bound) c.min.ensures.other_bound refl)
