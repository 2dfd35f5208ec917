use Rattle.std.proofs.Common.{arith, ◌+◌, ◌*◌}
use Rattle.gregorian.proofs.{Floor.{floors}, DateLaws.{place_found}, YearDays.{leap_by, first_by, own_year}}
use Rattle.gregorian.proofs.year_days.year_day_of.Goals as goal

pub returns-clause-place : goal.returns-clause-place
returns-clause-place c =
    let place = c.place_of-place.result in
    place_found c.args.day (100 * place.century + place.year) place.passed c.days_since_january.result (omega (arith, floors)) c.place_of-place.ensures.value
    c.place_of-place.ensures.within

pub returns-clause-leap : goal.returns-clause-leap
returns-clause-leap c =
    let place = c.place_of-place.result in
    let own = own_year c.args.day place.century place.year place.passed c.days_since_january.result (omega (arith, floors)) c.place_of-place.ensures.value
    c.place_of-place.ensures.within in
    grind (arith, leap_by)

pub returns-clause-first : goal.returns-clause-first
returns-clause-first c =
    let place = c.place_of-place.result in
    let own = own_year c.args.day place.century place.year place.passed c.days_since_january.result (omega (arith, floors)) c.place_of-place.ensures.value
    c.place_of-place.ensures.within in
    grind (arith, first_by)
