use Rattle.naive_base.proofs.{Words.{arith, floors, of_z, pos, to_z, to_z-of_z, w64, year_start, ℤ, ◌+ℤ◌, ◌≡◌}, Named.{found_thursday, only_thursday}}
use Rattle.naive_base.proofs.date.found.thursday_of.Goals as goal

pub returns-then-place-days_in_year-clause-value : goal.returns-then-place-days_in_year-clause-value
returns-then-place-days_in_year-clause-value c = grind (arith, only_thursday c.args.year c.args.week)

pub returns-clause-value : goal.returns-clause-value
returns-clause-value c =
    let range = c.ranges.year in let place = simp to_z-of_z at c.place_of_thursday-place.ensures in
    let days = simp to_z-of_z at c.days_in_year.ensures.value in let day_is = simp to_z-of_z at c.day_at_place.ensures.value in
    let t = found_thursday c.args.year c.args.week (omega (arith, c.if-week-eq0.false)) (omega (arith, place, c.if-place-days_in_year.false, days)) in
    let day : year_start c.args.year +ℤ pos c.place_of_thursday-place.result ≡ to_z w64 (of_z w64 c.day_at_place.result) = omega (arith, floors) in
    grind arith
