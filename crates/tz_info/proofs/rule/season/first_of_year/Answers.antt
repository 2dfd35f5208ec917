use Rattle.tz_info.proofs.Words.{arith, day_of_year_is, floors, own_start_in_range}
use Rattle.tz_info.proofs.rule.season.first_of_year.Goals as goal

pub returns : goal.returns
returns c = let own = rw (← c.requires.place) at (day_of_year_is c.args.day).0 in
    let begins = own_start_in_range _ c.requires.day in omega (arith, floors)
