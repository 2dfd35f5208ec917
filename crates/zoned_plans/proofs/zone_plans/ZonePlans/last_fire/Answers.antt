use Rattle.zoned_plans.proofs.{FireTimes.{none_fires_until, last_found}, Words.{zoned}}
use Rattle.zoned_plans.proofs.zone_plans.ZonePlans.last_fire.Goals as goal

pub returns-in_err-local : goal.returns-in_err-local
returns-in_err-local g c =
    rw c.from_residual.ensures (none_fires_until (g.met.Self.TimeZone.within_day c.args.self.now) c.args.until.now.in_range c.reached.ensures.reached
    c.in_err-local.ensures)

pub returns : goal.returns
returns g c =
    last_found _ _ (λ d. zoned d) c.whole_second_at_or_after.result (g.met.Self.TimeZone.within_day c.args.self.now) c.args.until.now.in_range
    c.reached.ensures.reached c.in_ok-local.ensures c.in_ok-local.local.in_range.0 c.whole_second_at_or_after.ensures
