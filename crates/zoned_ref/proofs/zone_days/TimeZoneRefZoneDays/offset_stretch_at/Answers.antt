use Rattle.zoned_ref.proofs.{Words.{IsZoneSecond, SFits, arith, inl, inr, ints, rules, to_z-of_z, w32, w64}, Days.{stretch_by_type}, Offsets.{not_refused}}
use Rattle.zoned_ref.proofs.zone_days.TimeZoneRefZoneDays.offset_stretch_at.Goals as goal

pub returns : goal.returns
returns c =
    let fs : SFits w64 c.secs_since_epoch.result = search rules in let fo : SFits w32 c.in-Some.field-0.offset = search rules in
    let ff : SFits w64 c.in-Some.field-0.from = search rules in let fu : SFits w64 c.in-Some.field-0.until = search rules in
    let at = simp to_z-of_z at c.in-Some.ensures.at in
    simp to_z-of_z (stretch_by_type _ _ c.zone-zone.ensures.offsets _ _ _ _ (omega (arith, ints)) (omega (arith, ints)) c.in-Some.ensures.each)

pub unreachable-requires : goal.unreachable-requires
unreachable-requires c =
    let fs : SFits w64 c.secs_since_epoch.result = search rules in
    let inside : IsZoneSecond c.secs_since_epoch.result = (omega (arith, ints), omega (arith, ints)) in
    elim (simp to_z-of_z at c.in-None.ensures.at) [
      | inl refused ↦ not_refused _ _ c.valid_law.ensures.valid inside refused
      | inr last ↦ omega (arith, ints)
    ]
