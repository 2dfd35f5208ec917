use Rattle.zoned_plans.proofs.{LastShown.{last_in, none_last_in}, Words.{SFits, numbers, rules, to_z-of_z, w32, w64, ◌+ℤ◌, ◌-ℤ◌, ◌≡◌}}
use Rattle.zoned_plans.proofs.last_fires.last_planned_in.Goals.{After-overflowing_add_offset-local}
use Rattle.zoned_plans.proofs.last_fires.last_planned_in.Goals as goal

-- the local time that a clock with that offset shows at the given second
local_is : (g : _) (c : After-overflowing_add_offset-local g) → c.overflowing_add_offset-local.result.secs ≡ c.args.until.now.datetime.secs +ℤ c.args.offset
local_is g c = grind numbers

pub returns-else-second-from : goal.returns-else-second-from
returns-else-second-from g c =
    let local = local_is g (goal.at.returns-else-second-from g c).After-overflowing_add_offset-local in
    let is = c.secs_since_epoch.ensures in let wide = c.in_ok-last.last.in_range.0 in let fn : SFits w64 c.secs_since_epoch.result = search rules in
    let fo : SFits w32 c.args.offset = search rules in
    let fk : SFits w64 c.args.offset = omega numbers in
    let fd : SFits w64 (c.secs_since_epoch.result -ℤ c.args.offset) = omega numbers in
    let after = simp to_z-of_z at c.if-second-from.false in
    simp to_z-of_z (rw is (last_in local wide c.in_ok-last.ensures (omega numbers)))

pub returns-then-second-from : goal.returns-then-second-from
returns-then-second-from g c =
    let local = local_is g (goal.at.returns-then-second-from g c).After-overflowing_add_offset-local in search (rules, to_z-of_z, none_last_in)
