use Rattle.zoned_plans.proofs.{LastShown.{all_quiet_until, quiet_from, quiet_then}, Words.{SFits, numbers, pos, rules, to_z-of_z, w64, zoned, ◌+ℤ◌, ◌≤ℤ◌}}
use Rattle.zoned_plans.proofs.last_fires.first_quiet.Goals.{After-overflowing_add_offset}
use Rattle.zoned_plans.proofs.last_fires.first_quiet.Goals as goal

-- the local time up to which the plan is searched is a day after the given second
a_day_after : (g : _) (c : After-overflowing_add_offset g) → (c.args.from.now.datetime.secs +ℤ pos 86_400) ≤ℤ c.overflowing_add_offset.result.secs
a_day_after g c = grind numbers

pub returns-in_err-last : goal.returns-in_err-last
returns-in_err-last g c = let high = a_day_after g (goal.at.returns-in_err-last g c).After-overflowing_add_offset in search (rules, all_quiet_until)

pub returns : goal.returns
returns g c =
    let high = a_day_after g (goal.at.returns g c).After-overflowing_add_offset in
    let fn : SFits w64 c.secs_since_epoch-second.result = search rules in let ft : SFits w64 c.timestamp.result = search rules in
    let is = c.secs_since_epoch-second.ensures in let fd : SFits w64 (c.secs_since_epoch-second.result +ℤ pos 86_400) = omega numbers in
    let earlier = simp to_z-of_z at c.if-second-timestamp.false in quiet_then (λ d. (zoned d).utc.s) c.utc_at.result (omega numbers, omega numbers)
    (rw is (quiet_from high (omega numbers) c.in_ok-last.ensures)) (simp to_z-of_z at c.utc_at.ensures)
