use Rattle.zoned_plans.proofs.Words.{IsFire}
use Rattle.zoned_plans.proofs.FireTimes.{each_fires, none_doubled, none_skipped}
use Rattle.zoned_plans.proofs.laws.fires.all_fires.Goals as goal

pub returns : goal.returns
returns g c = record {
  fires = λ zone plan t until. each_fires (IsFire (g.Tz.TimeZone.law zone).off (g.P.Plan.planned plan)) until t;
  none_skipped = λ zone plan t until. none_skipped (IsFire (g.Tz.TimeZone.law zone).off (g.P.Plan.planned plan)) until t;
  none_doubled = λ zone plan t until. none_doubled (IsFire (g.Tz.TimeZone.law zone).off (g.P.Plan.planned plan)) until t;
}
