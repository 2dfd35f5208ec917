use Rattle.zoned_time.proofs.{Words.{reading, seconds_of}, Walls.{shown_once}}
use Rattle.zoned_time.proofs.fixed.FixedOffsetTimeZone.offset_before_gap.Goals as goal

pub returns : goal.returns
returns c = let zone = c.args.self.now in let local = c.args._local.now in
    let once = shown_once (seconds_of zone) (reading local).s zone.within_day local.in_range.0 in (once.second, seconds_of zone, once.shown)
