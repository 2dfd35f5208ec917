use Rattle.zoned_plans.proofs.{ShownFires.{first_in, none_in}, Words.{SFits, numbers, rules, to_z-of_z, w32, w64, ◌+ℤ◌, ◌-ℤ◌, ◌≡◌}}
use Rattle.zoned_plans.proofs.policies.first_planned_in.Goals.{After-overflowing_add_offset-local}
use Rattle.zoned_plans.proofs.policies.first_planned_in.Goals as goal

-- the local time that a clock with that offset shows at the given second
local_is : (g : _) (c : After-overflowing_add_offset-local g) → c.overflowing_add_offset-local.result.secs ≡ c.args.after.now.datetime.secs +ℤ c.args.offset
local_is g c = grind numbers

pub returns-then-second-until : goal.returns-then-second-until
returns-then-second-until g c =
    let local = local_is g (goal.at.returns-then-second-until g c).After-overflowing_add_offset-local in
    let is = c.secs_since_epoch.ensures in let wide = c.in_ok-next.next.in_range.0 in let fn : SFits w64 c.secs_since_epoch.result = search rules in
    let fo : SFits w32 c.args.offset = search rules in
    let fk : SFits w64 c.args.offset = omega numbers in
    let fd : SFits w64 (c.secs_since_epoch.result -ℤ c.args.offset) = omega numbers in
    let before = simp to_z-of_z at c.if-second-until.true in
    simp to_z-of_z (rw is (first_in local wide c.in_ok-next.ensures (omega numbers)))

pub returns-else-second-until : goal.returns-else-second-until
returns-else-second-until g c =
    let local = local_is g (goal.at.returns-else-second-until g c).After-overflowing_add_offset-local in
    let fn : SFits w64 c.secs_since_epoch.result = search rules in let fo : SFits w32 c.args.offset = search rules in
    let fk : SFits w64 c.args.offset = omega numbers in
    let fd : SFits w64 (c.secs_since_epoch.result -ℤ c.args.offset) = omega numbers in
    let beyond = simp to_z-of_z at c.if-second-until.false in none_in _ local c.in_ok-next.ensures (omega numbers)
