use Rattle.std.proofs.Common.{arith, pos, ◌+ℤ◌, ◌-ℤ◌, ◌*ℤ◌, to_z, of_z, w64}
use Rattle.gregorian.proofs.{Floor.{floors}, YearLaws.{floor_mod_parts}, WeekdayLaws.{thursday_at}}
use Rattle.gregorian.proofs.weeks.thursday_of_week.Goals as goal

pub returns-clause-value : goal.returns-clause-value
returns-clause-value c =
    let days = to_z w64 (of_z w64 (to_z w64 c.split_weeks-weeks.result.0 *ℤ pos 7)) in
    let thursday = to_z w64 (of_z w64 (days +ℤ pos 4)) in
    let weekday = floor_mod_parts (c.args.day +ℤ pos 4) 7 (omega arith) in
    thursday_at c.args.day (to_z w64 (of_z w64 (thursday -ℤ pos 784_353_144_341))) (omega (arith, floors))
