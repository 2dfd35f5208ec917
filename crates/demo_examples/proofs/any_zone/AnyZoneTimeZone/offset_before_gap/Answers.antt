use Rattle.std.proofs.Common.{Some}
use Rattle.zoned.proofs.ForCallers.{constant_no_gap, wrapped_gap}
use Rattle.zoned.specs.FixedOffset.{seconds_of}
use Rattle.zoned.specs.KeptZone as kept
use Rattle.demo_examples.specs.AnyZone.{law_of, meaning_of}
use Rattle.demo_examples.specs.declared.any_zone.AnyOffset.TheVariants as offsets
use Rattle.demo_examples.specs.declared.any_zone.AnyZone.TheVariants as zones
use Rattle.demo_examples.proofs.Wrapped.{named_is_wrapped}
use Rattle.demo_examples.proofs.any_zone.AnyZoneTimeZone.offset_before_gap.Goals as goal

pub returns-in-Fixed : goal.returns-in-Fixed
returns-in-Fixed c = let local = c.args.local.now in let offset = c.in-Fixed.field-0 in
    rw c.in-Fixed.is (constant_no_gap meaning_of (seconds_of offset) local.secs offset.within_day local.in_range.0)

pub returns-in_ok-offset_before_gap-in-Named : goal.returns-in_ok-offset_before_gap-in-Named
returns-in_ok-offset_before_gap-in-Named c = let zone = c.in-Named.zone in let before = c.in_ok-offset_before_gap-in-Named in
    rw c.in-Named.is
    (wrapped_gap offsets.Named (kept.law_of zone) (law_of (zones.Named zone)) (named_is_wrapped zone) c.args.local.now.secs (Some before.field-0)
    before.ensures.offset)
