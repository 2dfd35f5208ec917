use Rattle.zoned_plans.specs.Fires.{usual_policy}
use Rattle.zoned_plans.proofs.Words.{IsFire, IsFireBy}
use Rattle.zoned_plans.proofs.FireTimes.{each_fires, fires_usual, none_doubled, none_skipped, same_all, usual_fires}
use Rattle.zoned_plans.proofs.laws.fires.all_fires_by.Goals as goal

pub returns : goal.returns
returns g c = record {
  fires = λ zone plan policy t until us h. let fire = IsFireBy policy (g.Tz.TimeZone.law zone).off (g.P.Plan.planned plan) in
      (each_fires fire until t us h, none_skipped fire until t us h, none_doubled fire until t us h);
  usual = λ zone plan t until us. let off = (g.Tz.TimeZone.law zone).off in let planned = g.P.Plan.planned plan in
      let by = IsFireBy usual_policy off planned in let there = fires_usual off planned in let back = usual_fires off planned in
      (same_all by (IsFire off planned) there back until t us, same_all (IsFire off planned) by back there until t us);
}
