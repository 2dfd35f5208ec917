use Rattle.zoned_time.proofs.DayStarts.{one_day, some_day}
use Rattle.zoned_time.proofs.laws.days.days_partition.Goals as goal

pub returns : goal.returns
returns g c = record {
  exists = λ zone. some_day (g.met.Tz.TimeZone.within_day zone);
  once = λ zone. one_day (g.Tz.TimeZone.law zone).off;
}
