use Rattle.zoned_plans.proofs.FireTimes.{last_fire, next_fire}
use Rattle.zoned_plans.proofs.laws.steps.steps_reached.Goals as goal

pub returns : goal.returns
returns g c = record {
  begin = λ zone _ _ _ _ _ range reached. last_fire (g.met.Tz.TimeZone.within_day zone) range reached;
  end = λ zone _ _ _ _ _ range reached. next_fire (g.met.Tz.TimeZone.within_day zone) range reached;
}
