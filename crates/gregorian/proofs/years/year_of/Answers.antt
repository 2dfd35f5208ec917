use Rattle.std.proofs.Common.{arith, to_z, of_z, w32}
use Rattle.gregorian.specs.DateOf.{year_of}
use Rattle.gregorian.proofs.{Floor.{floors}, YearLaws.{lies_in, one_year}, Cycle.{year_found}}
use Rattle.gregorian.proofs.years.year_of.Goals as goal

pub returns : goal.returns
returns c =
    let year = to_z w32 (of_z w32 c.year_from_base.result) in
    let lies = year_found c.args.day year c.split_years-years.result.0 c.split_years-years.result.1 c.days_since_january.result (omega (arith, floors))
    c.split_years-years.ensures.value c.split_years-years.ensures.within (omega (arith, floors)) in
    one_year c.args.day year (year_of c.args.day) lies (lies_in c.args.day)
