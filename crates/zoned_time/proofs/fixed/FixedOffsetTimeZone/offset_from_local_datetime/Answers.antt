use Rattle.zoned_time.proofs.{Words.{law_by_seconds, meaning_by_seconds, reading, refl, seconds_of}, Homes.{same_itself}, Walls.{constant_wall}}
use Rattle.zoned_time.proofs.fixed.FixedOffsetTimeZone.offset_from_local_datetime.Goals as goal

pub returns : goal.returns
returns c = let zone = c.args.self.now in let local = c.args._local.now in
    constant_wall (meaning_by_seconds seconds_of (λ o _. seconds_of o)) zone (seconds_of zone) (reading local).s refl
    (same_itself (law_by_seconds (λ _. seconds_of zone))) zone.within_day local.in_range.0
