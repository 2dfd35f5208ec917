use Rattle.std.proofs.Common.{arith, to_z-of_z}
use Rattle.gregorian.proofs.{DateLaws.{date_only}}
use Rattle.gregorian.proofs.dates.date_of.Goals as goal

pub returns : goal.returns
returns c =
    let fits = c.ranges.day in let number = simp to_z-of_z at c.find_date.ensures.number in
    grind (arith, date_only c.args.day _ _ _ c.find_date.ensures.date number)
