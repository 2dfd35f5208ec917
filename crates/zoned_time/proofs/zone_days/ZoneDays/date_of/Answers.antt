use Rattle.zoned_time.proofs.ReachedTimes.{day_reached}
use Rattle.zoned_time.proofs.zone_days.ZoneDays.date_of.Goals as goal

pub returns : goal.returns
returns g c = rw c.date.ensures (day_reached (g.met.Self.TimeZone.within_day c.args.self.now) c.args.instant.now.in_range c.reached.ensures.reached)
