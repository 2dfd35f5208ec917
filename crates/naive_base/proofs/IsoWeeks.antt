-- The ISO week of a day is one, and the year's first has 4 January.
use Rattle.naive_base.proofs.Words.{IsWeekOf, IsoWeek, arith, day_number, day_of_year, day_of_year_is, days_at_least, days_of_months, floors, iso_number}
use Rattle.naive_base.proofs.Words.{iso_year, lies_in, one_thursday, one_year, pos, year_of, year_start, year_step, ℤ, ◌+ℤ◌, ◌<ℤ◌, ◌<◌, ◌≡◌, ◌≤ℤ◌}
use Rattle.naive_base.proofs.Values.{same_week}

pub one_week : (day : ℤ) (a b : IsoWeek) → IsWeekOf day a → IsWeekOf day b → a ≡ b
one_week day a b h k = grind (arith, floors, one_thursday, same_week)

-- a Thursday at most three days from 4 January is one of the year's first seven days
first_days : (y t : ℤ) → year_start y ≤ℤ t → t <ℤ (year_start y +ℤ pos 7) → (year_of t ≡ y) × (day_of_year t < 7)
first_days y t low high =
    let step = year_step y in let days = days_at_least y in
    grind (arith, floors, one_year t (year_of t) y (lies_in t) (low, omega (arith, floors)), day_of_year_is t)

pub first_week : (y : ℤ) (week : IsoWeek) → IsWeekOf (day_number y 1 4) week → (iso_year week ≡ y) × (iso_number week ≡ 1)
unfolding day_number days_of_months
first_week y week h = grind (arith, floors, first_days y h.thursday (omega (arith, floors, h.in_week)) (omega (arith, floors, h.in_week)))
