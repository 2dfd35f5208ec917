-- Years laid end to end: each day lies in one of them.
use Rattle.std.proofs.Common.{◌≡◌, ℕ, ◌≤◌, arith, ℤ, pos, neg_ℤ, ◌+ℤ◌, ◌-ℤ◌, ◌≤ℤ◌, refl, unsigned_abs, ◌<ℤ◌, zero, suc}
use Rattle.std.proofs.lemmas.Int.{by_lt_z}
use Rattle.gregorian.specs.{Year.{days_in_year, year_start, LiesIn, IsYear, IsDay}, DateOf.{year_of}}
pub use Rattle.gregorian.specs.Steps.Years.{floor_mod_parts, year_step, gap_of}
use Rattle.gregorian.proofs.Floor.{floors}

pub days_at_least : (y : ℤ) → 365 ≤ days_in_year y
days_at_least y = grind arith

pub days_at_most : (y : ℤ) → days_in_year y ≤ 366
days_at_most y = grind arith

pub lies_in : (day : ℤ) → LiesIn day (year_of day)
unfolding year_of
lies_in day = grind arith

-- 1970-01-01 is day 0
pub first_year_start : year_start (pos 1970) ≡ pos 0
unfolding year_start
first_year_start = refl

-- Later years start later, so that no day lies in two.

year_start-less : (y : ℤ) → year_start y <ℤ year_start (y +ℤ pos 1)
year_start-less y = grind (arith, year_step)

add-next : (y : ℤ) (n : ℕ) → (y +ℤ pos n) +ℤ pos 1 ≡ y +ℤ pos (suc n)
add-next y n = omega (arith, floors)

year_start-later : (y : ℤ) (n : ℕ) → year_start y ≤ℤ year_start (y +ℤ pos n)
year_start-later y zero = grind arith
year_start-later y (suc n) = grind (arith, year_start-later y n, add-next y n, year_start-less (y +ℤ pos n))

pub starts_rise : (a b : ℤ) → a ≤ℤ b → year_start a ≤ℤ year_start b
starts_rise a b h = rw (gap_of a b h) at (year_start-later a (unsigned_abs (b -ℤ a)))

starts_less : (a b : ℤ) → year_start a <ℤ year_start b → a <ℤ b
starts_less a b h = by_lt_z a b (λ less. less) (λ not_less. let rise = starts_rise b a (omega (arith, floors)) in grind arith)

-- no day lies in two years
pub one_year : (day a b : ℤ) → LiesIn day a → LiesIn day b → a ≡ b
one_year day a b h k = omega (arith, floors, starts_less a (b +ℤ pos 1) (omega (arith, floors)), starts_less b (a +ℤ pos 1) (omega (arith, floors)))

-- The years that 32 bits hold.

first_start : year_start (neg_ℤ (pos 2_147_483_648)) ≡ neg_ℤ (pos 784_353_015_833)
unfolding year_start
first_start = refl

last_start : year_start (pos 2_147_483_648) ≡ pos 784_351_576_777
unfolding year_start
last_start = refl

pub day_of_years : (day y : ℤ) → LiesIn day y → IsYear y → IsDay day
day_of_years day y lies fits =
    let first = starts_rise (neg_ℤ (pos 2_147_483_648)) y fits.0 in
    grind (arith, starts_rise (y +ℤ pos 1) (pos 2_147_483_648) (omega (arith, floors)), first_start, last_start)

pub year_of_days : (day y : ℤ) → LiesIn day y → IsDay day → IsYear y
year_of_days day y lies within = (
  omega (arith, floors, starts_less (neg_ℤ (pos 2_147_483_648)) (y +ℤ pos 1) (omega (arith, floors, first_start))),
  omega (arith, floors, starts_less y (pos 2_147_483_648) (omega (arith, floors, last_start))),
)

pub start_in_range : (y : ℤ) → IsYear y → IsDay (year_start y)
start_in_range y fits = day_of_years (year_start y) y (omega (arith, floors), year_start-less y) fits

-- the first day of a day's year
pub own_start_in_range : (day : ℤ) → IsDay day → IsDay (year_start (year_of day))
own_start_in_range day within = start_in_range (year_of day) (year_of_days day (year_of day) (lies_in day) within)
