use Rattle.zoned_ref.proofs.{Words.{FitsSigned, rules, to_z-of_z, w32}, Narrow.{greatest_within, least_within, narrow_by}}
use Rattle.zoned_ref.proofs.time_zone_ref.is_narrow.Goals as goal

pub returns-then-is_within_day : goal.returns-then-is_within_day
returns-then-is_within_day c =
    let at_least : FitsSigned w32 c.least_offset.result = search rules in
    let at_most : FitsSigned w32 c.greatest_offset.result = search rules in let z = c.args.zone.now in
    let low = simp to_z-of_z at c.is_within_day.ensures in
    let high = simp to_z-of_z at c.is_within_day-then-is_within_day.ensures in (
      λ t. narrow_by z _ _ c.least_offset.ensures c.greatest_offset.ensures (low.0 c.if-is_within_day.true) (high.0 t),
      λ narrow. high.1 (greatest_within z narrow _ c.greatest_offset.ensures),
    )

pub returns-else-is_within_day : goal.returns-else-is_within_day
returns-else-is_within_day c =
    let at_least : FitsSigned w32 c.least_offset.result = search rules in let z = c.args.zone.now in
    let low = simp to_z-of_z at c.is_within_day.ensures in (λ t. cc, λ narrow. low.1 (least_within z narrow _ c.least_offset.ensures))
