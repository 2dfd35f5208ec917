use Rattle.zoned_plans.proofs.{ShownFires.{planned_next}, Words.{by_test, numbers, pos, rules, to_z-of_z, ◌+ℤ◌, ◌≡◌}}
use Rattle.zoned_plans.proofs.policies.shows_planned.Goals.{After-overflowing_add_offset-local}
use Rattle.zoned_plans.proofs.policies.shows_planned.Goals as goal

-- the local time is the second before what clocks show
before_shown : (g : _) (c : After-overflowing_add_offset-local g)
    → (c.args.instant.now.datetime.secs +ℤ g.Tz.Offset.Offset.seconds c.args.instant.now.offset) ≡ c.overflowing_add_offset-local.result.secs +ℤ pos 1
before_shown g c = grind numbers

pub returns-in-Some-next_after : goal.returns-in-Some-next_after
returns-in-Some-next_after g c =
    let is = before_shown g (goal.at.returns-in-Some-next_after g c).After-overflowing_add_offset-local in search (rules, to_z-of_z, by_test, planned_next)

pub returns-in-None : goal.returns-in-None
returns-in-None g c = let is = before_shown g (goal.at.returns-in-None g c).After-overflowing_add_offset-local in search rules
