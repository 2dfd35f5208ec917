use Rattle.zoned_ffi.proofs.{Words.{Fits64, FitsSigned, IsResolvedAt, ap, rules, to_z-of_z, w32}, Resolving.{ended_by, resolved_by}}
use Rattle.zoned_ffi.proofs.resolved.Resolved.at.Goals as goal

pub returns-in-Ok-InForce : goal.returns-in-Ok-InForce
returns-in-Ok-InForce c =
    let fits : FitsSigned w32 c.in-Ok-InForce.offset = search rules in let instant : Fits64 c.instant_by.result = search rules in
    let local = c.ranges.local in
    let stamp = simp to_z-of_z at c.in-Some.ensures in let taken = rw (c.in-Ok-InForce.field-0-is, ap (λ r. r.s) stamp.1) at c.in-Ok-InForce.ensures in
    let at = simp to_z-of_z at c.instant_by.ensures in
    resolved_by _ _ _ taken.0.0 _ _ stamp.0.0 taken.0.1 (rw taken.0.2 at taken.1) (rw (at, taken.0.2) at (simp to_z-of_z at c.within.ensures))

pub returns-in-Ok-Shifted : goal.returns-in-Ok-Shifted
returns-in-Ok-Shifted c =
    let taken_offset : FitsSigned w32 c.in-Ok-Shifted.offset = search rules in
    let fits : FitsSigned w32 c.offset_at.result = search rules in let instant : Fits64 c.instant_by-instant.result = search rules in
    let local = c.ranges.local in
    let stamp = simp to_z-of_z at c.in-Some.ensures in let taken = rw (c.in-Ok-Shifted.field-0-is, ap (λ r. r.s) stamp.1) at c.in-Ok-Shifted.ensures in
    let at = simp to_z-of_z at c.instant_by-instant.ensures in let there = simp to_z-of_z at c.offset_at.ensures in
    let written = simp to_z-of_z at c.within-in-Ok-Shifted.ensures in
    resolved_by _ _ _ taken.0 _ _ stamp.0.0 taken.1 (rw (at, taken.2) at there) (rw (at, taken.2) at written)

pub returns-in-Ok-GapEnd : goal.returns-in-Ok-GapEnd
returns-in-Ok-GapEnd c =
    let second : Fits64 c.in-Ok-GapEnd.at = search rules in let fits : FitsSigned w32 c.in-Ok-GapEnd.offset = search rules in
    let local = c.ranges.local in
    let stamp = simp to_z-of_z at c.in-Some.ensures in let taken = rw (c.in-Ok-GapEnd.field-0-is, ap (λ r. r.s) stamp.1) at c.in-Ok-GapEnd.ensures in
    let written = simp to_z-of_z at c.within-in-Ok-GapEnd.ensures in
    ended_by _ _ _ _ taken.0 _ stamp.0.0 taken.1 (rw taken.2 at written)

pub returns-in-Err : goal.returns-in-Err
returns-in-Err c =
    let local = c.ranges.local in
    let stamp = simp to_z-of_z at c.in-Some.ensures in
    IsResolvedAt.none c.in-Err.number stamp.0.0 (rw (ap (λ r. r.s) stamp.1) at c.in-Err.ensures) c.none-in-Err.ensures
