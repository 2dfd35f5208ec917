use Rattle.std.proofs.Common.{refl}
use Rattle.zoned.proofs.ForCallers.{constant_wall, same_itself, wrapped_wall}
use Rattle.zoned.specs.{FixedOffset.{seconds_of}, declared.LocalResult.{LocalResult}}
use Rattle.demo_examples.specs.AnyZone.{law_of, meaning_of}
use Rattle.demo_examples.proofs.Wrapped.{named_is_wrapped}
use Rattle.zoned.specs.KeptZone as kept
use Rattle.demo_examples.specs.declared.any_zone.AnyOffset.TheVariants as offsets
use Rattle.demo_examples.specs.declared.any_zone.AnyZone.TheVariants as zones
use Rattle.demo_examples.proofs.any_zone.AnyZoneTimeZone.offset_from_local_datetime.Goals as goal

pub returns-in-Fixed : goal.returns-in-Fixed
returns-in-Fixed c = let local = c.args.local.now in let offset = c.in-Fixed.offset in
    rw c.in-Fixed.is
    (constant_wall meaning_of (offsets.Fixed offset) (seconds_of offset) local.secs refl (same_itself (law_of (zones.Fixed offset))) offset.within_day
    local.in_range.0)

pub returns-in-Single : goal.returns-in-Single
returns-in-Single c = let zone = c.in-Named.zone in
    rw c.in-Named.is
    (wrapped_wall offsets.Named (kept.law_of zone) (law_of (zones.Named zone)) (named_is_wrapped zone) c.args.local.now.secs
    (LocalResult.Single c.in-Single.only)
    c.in-Single.ensures.offsets)

pub returns-in-Ambiguous : goal.returns-in-Ambiguous
returns-in-Ambiguous c = let zone = c.in-Named.zone in let both = c.in-Ambiguous in
    rw c.in-Named.is
    (wrapped_wall offsets.Named (kept.law_of zone) (law_of (zones.Named zone)) (named_is_wrapped zone) c.args.local.now.secs
    (LocalResult.Ambiguous both.first both.last)
    both.ensures.offsets)
