use Rattle.zoned_plans.proofs.Words.{SFits, numbers, pos, rules, to_z-of_z, w64, zoned, ◌-ℤ◌, ◌≤ℤ◌}
use Rattle.zoned_plans.proofs.ShownFires.{all_quiet, quiet_at, quiet_until}
use Rattle.zoned_plans.proofs.policies.last_quiet.Goals.{After-overflowing_add_offset}
use Rattle.zoned_plans.proofs.policies.last_quiet.Goals as goal

-- the local time from which the plan is searched is a day before the given second
a_day_before : (g : _) (c : After-overflowing_add_offset g) → c.overflowing_add_offset.result.secs ≤ℤ (c.args.from.now.datetime.secs -ℤ pos 86_400)
a_day_before g c = grind numbers

pub returns-in_err-next : goal.returns-in_err-next
returns-in_err-next g c = let low = a_day_before g (goal.at.returns-in_err-next g c).After-overflowing_add_offset in search (rules, all_quiet)

pub returns : goal.returns
returns g c =
    let low = a_day_before g (goal.at.returns g c).After-overflowing_add_offset in
    let fn : SFits w64 c.secs_since_epoch-second.result = search rules in let ft : SFits w64 c.timestamp.result = search rules in
    let is = c.secs_since_epoch-second.ensures in let fd : SFits w64 (c.secs_since_epoch-second.result -ℤ pos 86_400) = omega numbers in
    let later = simp to_z-of_z at c.if-second-timestamp.false in quiet_at (λ d. (zoned d).utc.s) c.utc_at.result (omega numbers, omega numbers)
    (rw is (quiet_until low (omega numbers) c.in_ok-next.ensures)) (simp to_z-of_z at c.utc_at.ensures)
