use Rattle.std.proofs.Common.{arith}
use Rattle.gregorian.proofs.{Floor.{floors}, DateLaws.{place_found}}
use Rattle.gregorian.proofs.years.day_of_year.Goals as goal

pub returns-clause-value : goal.returns-clause-value
returns-clause-value c =
    place_found c.args.day c.split_years-passed.result.0 c.split_years-passed.result.1 c.days_since_january.result (omega (arith, floors))
    c.split_years-passed.ensures.value c.split_years-passed.ensures.within
