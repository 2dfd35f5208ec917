use Rattle.zoned_plans.proofs.{StepTimes.{first_later, first_now}, Words.{rules, to_z-of_z, zoned}}
use Rattle.zoned_plans.proofs.zone_plans.ZonePlans.first_fire.Goals as goal

pub returns-in-Some : goal.returns-in-Some
returns-in-Some g c = search (rules, to_z-of_z, first_now)

pub returns : goal.returns
returns g c =
    first_later (g.Self.TimeZone.law c.args.self.now) (g.P.Plan.planned c.args.plan.now) (zoned c.args.from.now).utc (λ d. zoned d) c.next_fire.result
    c.in_default.ensures c.next_fire.ensures
