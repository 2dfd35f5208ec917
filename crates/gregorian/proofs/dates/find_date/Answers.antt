use Rattle.std.proofs.Common.{arith, ◌≡◌, ◌+◌, ◌-◌, ◌*◌, to_z, of_z, w32}
use Rattle.gregorian.proofs.{Floor.{floors}, Cycle.{number_early, number_late}}
use Rattle.gregorian.proofs.dates.find_date.Goals as goal

pub returns-then-month-gt12-clause-number : goal.returns-then-month-gt12-clause-number
returns-then-month-gt12-clause-number c =
    let place = c.place_of-place.result in let date = c.march_month-month.result in
    let month : date.0 - 12 + 12 ≡ date.0 = omega arith in
    let number = number_early (to_z w32 (of_z w32 c.year_from_base.result)) (100 * place.century + place.year) (date.0 - 12) date.1 (omega (arith, floors))
    (omega arith) (omega arith) (omega arith) in
    grind arith

pub returns-clause-number : goal.returns-clause-number
returns-clause-number c =
    let place = c.place_of-place.result in let date = c.march_month-month.result in
    let number = number_late (to_z w32 (of_z w32 c.year_from_base-2.result)) (100 * place.century + place.year) date.0 date.1 (omega (arith, floors))
    (omega arith) (omega arith) (omega arith) in
    grind arith
