-- Local times that one second shows each, by the offset of a stretch.
use Rattle.std.specs.Int.{saturate_signed}
use Rattle.offset_core.specs.declared.local_result.LocalResult.TheVariants.{Single}
use Rattle.zoned_ffi.proofs.Words.{Choice, Fits64, IsGreatest, IsLeast, IsResolvedAt, IsResolvedStamp, IsUtOffset, IsWallClockAt, OffsetStretch, Resolved}
use Rattle.zoned_ffi.proofs.Words.{IsOffsetStretch, WrittenLocalResult, Zone, arith, first_second, inl, ints, offsets, pos, told_of, w64, ℤ, ◌+ℤ◌, ◌-ℤ◌, ◌<ℤ◌}
use Rattle.zoned_ffi.proofs.{Words.{◌≡◌, ◌≤ℤ◌}, Columns.{once_shown}, Resolving.{in_force, resolved_by, taken_once}, Telling.{told_answer}}
use Rattle.zoned_ffi.specs.{Steps.ShownOnce.{IsHeldOf, IsOnceBy}, declared.local_lookups.Held.{Held}}

abbrev pub end_second : ℤ
end_second = pos 8_210_266_876_800

pub held_of : (z : Zone) (s : OffsetStretch) (low high first end : ℤ) (h : Held) → IsOffsetStretch z s → Fits64 s.from → Fits64 s.until
    → IsLeast (offsets z.types z.rule) low → IsGreatest (offsets z.types z.rule) high → IsUtOffset s.offset
    → first ≡ saturate_signed w64 (s.from +ℤ high) → end ≡ saturate_signed w64 (s.until +ℤ low)
    → first ≤ℤ h.first → first_second ≤ℤ h.first → h.end ≤ℤ end → h.end ≤ℤ end_second → h.offset ≡ s.offset → IsHeldOf z h
held_of z s low high first end h stretch fits_from fits_until is_low is_high bound first_is end_is a b d e same = λ local since before.
    let above : (s.from +ℤ high) ≤ℤ local = grind (arith, ints) in
    let below : local <ℤ (s.until +ℤ low) = grind (arith, ints) in
    let found = once_shown z s low high local stretch fits_from fits_until is_low is_high above below in
    record { in_range = (omega (arith, ints), omega (arith, ints)); type = found.0; once = found.1; same = rw same found.2; is_offset = rw same bound }

-- by every choice it is taken
pub once_resolved : (z : Zone) (choice : Choice) (local offset : ℤ) (w : Resolved) → IsOnceBy z local offset → IsResolvedStamp (local -ℤ offset) offset w
    → IsResolvedAt z choice local w
once_resolved z choice local offset w held stamp =
    let t = held.type in let same = held.same in let taken = taken_once z local choice t held.once in
    let there = in_force z local choice held.once.second t offset held.once.shown taken same (rw same at held.is_offset) in
    resolved_by z local choice t t.offset w held.in_range taken (rw same at there.1) (rw same at stamp)

-- and it is shown once
pub once_told : (z : Zone) (local offset : ℤ) (w : WrittenLocalResult) → IsOnceBy z local offset
    → w ≡ record { shown = pos 1; first_offset = offset; last_offset = offset; first = local -ℤ offset; last = local -ℤ offset } → IsWallClockAt z local w
once_told z local offset w held is =
    inl (held.in_range, (told_of local (Single held.type), told_answer z local (Single held.type) held.once, rw held.same at is))
