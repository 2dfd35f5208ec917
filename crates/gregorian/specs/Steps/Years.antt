-- Each year's days by the rule of leap years, and the year of a day in closed form.
use Rattle.std.proofs.Common.{◌≡◌, ℕ, ◌+◌, ◌*◌, ◌<◌, arith, ℤ, pos, negsuc, true, false, cond, not, ◌&&◌, ◌||◌, ◌+ℤ◌, ◌-ℤ◌, ◌≤ℤ◌, refl, unsigned_abs, ◌==◌}
use Rattle.std.proofs.{Common.{◌*ℤ◌, ◌<ℤ◌, int_lt}, lemmas.Bool.Decides.{nat_tests}}
use Rattle.gregorian.specs.{Year.{floor_div, floor_mod, days_in_year, year_start, LiesIn}, Steps.Floor.{floors}}
use borrow.Author.Differences.{up, down}

-- what a quotient leaves, as numbers that `omega` reads
pub floor_mod_parts : (z : ℤ) (n : ℕ) → 0 < n
    → (floor_mod z n + up (floor_div z n) * n + down z ≡ down (floor_div z n) * n + up z) × (floor_mod z n < n)
floor_mod_parts (pos a) n some = omega arith
floor_mod_parts (negsuc a) n some = omega arith

-- One year's days: from a year to the next, each floor of the year's start rises if the year is its multiple.

days_by_remainders : (by_4 by_100 by_400 : ℕ) → (by_100 ≡ 0 → by_4 ≡ 0) → (by_400 ≡ 0 → by_100 ≡ 0)
    → cond ((by_4 == 0) && (not (by_100 == 0) || (by_400 == 0))) 366 365 + cond (by_100 == 0) 1 0 ≡ 365 + cond (by_4 == 0) 1 0 + cond (by_400 == 0) 1 0
days_by_remainders by_4 by_100 by_400 h k = grind (arith, nat_tests)

by_100-by_4 : (y : ℤ) → floor_mod y 100 ≡ 0 → floor_mod y 4 ≡ 0
by_100-by_4 y h =
    let small = floor_mod_parts y 4 (omega arith) in let large = floor_mod_parts y 100 (omega arith) in
    omega arith

by_400-by_100 : (y : ℤ) → floor_mod y 400 ≡ 0 → floor_mod y 100 ≡ 0
by_400-by_100 y h =
    let small = floor_mod_parts y 100 (omega arith) in let large = floor_mod_parts y 400 (omega arith) in
    omega arith

floor_4-step : (y : ℤ) → floor_div y 4 ≡ floor_div (y -ℤ pos 1) 4 +ℤ pos (cond (floor_mod y 4 == 0) 1 0)
floor_4-step y = let parts = floor_mod_parts y 4 (omega arith) in grind (arith, floors, nat_tests)

floor_100-step : (y : ℤ) → floor_div y 100 ≡ floor_div (y -ℤ pos 1) 100 +ℤ pos (cond (floor_mod y 100 == 0) 1 0)
floor_100-step y = let parts = floor_mod_parts y 100 (omega arith) in grind (arith, floors, nat_tests)

floor_400-step : (y : ℤ) → floor_div y 400 ≡ floor_div (y -ℤ pos 1) 400 +ℤ pos (cond (floor_mod y 400 == 0) 1 0)
floor_400-step y = let parts = floor_mod_parts y 400 (omega arith) in grind (arith, floors, nat_tests)

next-back : (y : ℤ) → (y +ℤ pos 1) -ℤ pos 1 ≡ y
next-back y = omega (arith, floors)

-- the years are laid end to end
pub year_step : (y : ℤ) → year_start (y +ℤ pos 1) ≡ year_start y +ℤ pos (days_in_year y)
unfolding year_start
year_step y =
    let fourth = floor_4-step y in let century = floor_100-step y in let cycle = floor_400-step y in
    let days = days_by_remainders (floor_mod y 4) (floor_mod y 100) (floor_mod y 400) (by_100-by_4 y) (by_400-by_100 y) in
    rw (next-back y) (omega (arith, floors))

-- how far a number is above another
pub gap_of : (a b : ℤ) → a ≤ℤ b → a +ℤ pos (unsigned_abs (b -ℤ a)) ≡ b
gap_of a b h = elim (b -ℤ a) as (λ (z : ℤ). b -ℤ a ≡ z → a +ℤ pos (unsigned_abs z) ≡ b) [
  | pos n ↦ λ e. omega (arith, floors)
  | negsuc n ↦ λ e. absurd (omega (arith, floors))
] refl

-- the day's year by the mean length of a year, 146097 / 400 days: at most one off
abbrev pub mean_year : ℤ → ℤ
mean_year day = floor_div (day *ℤ pos 400) 146097 +ℤ pos 1970

-- the year that the day lies in: the mean year or one of its neighbours
unfoldable pub closed_year : ℤ → ℤ
closed_year day =
    cond (int_lt day (year_start (mean_year day))) (mean_year day -ℤ pos 1)
    (cond (int_lt day (year_start (mean_year day +ℤ pos 1))) (mean_year day) (mean_year day +ℤ pos 1))

-- Each day lies in its year: the mean year is at most one off, since the three floors together take away or add less than
-- two days (in 400ths of a day, 700).

start_bounds : (y : ℤ)
    → ((pos 146097 *ℤ (y -ℤ pos 1970) -ℤ pos 700) ≤ℤ (pos 400 *ℤ year_start y))
    × ((pos 400 *ℤ year_start y) ≤ℤ (pos 146097 *ℤ (y -ℤ pos 1970) +ℤ pos 700))
unfolding year_start
start_bounds y = omega (arith, floors)

mean_year-near : (day : ℤ)
    → (year_start (mean_year day -ℤ pos 1) ≤ℤ day) × (day <ℤ year_start (mean_year day +ℤ pos 2))
mean_year-near day =
    let before = start_bounds (mean_year day -ℤ pos 1) in
    let behind = start_bounds (mean_year day +ℤ pos 2) in
    omega (arith, floors)

back-next : (y : ℤ) → (y -ℤ pos 1) +ℤ pos 1 ≡ y
back-next y = omega (arith, floors)

next-next : (y : ℤ) → (y +ℤ pos 1) +ℤ pos 1 ≡ y +ℤ pos 2
next-next y = omega (arith, floors)

-- the two tests of the closed form, over any starts of years
chosen_year : (day near : ℤ) (start : ℤ → ℤ) → start (near -ℤ pos 1) ≤ℤ day → day <ℤ start (near +ℤ pos 2) → (y : ℤ)
    → y ≡ (cond (int_lt day (start near)) (near -ℤ pos 1) (cond (int_lt day (start (near +ℤ pos 1))) near (near +ℤ pos 1)))
    → (start y ≤ℤ day) × (day <ℤ start (y +ℤ pos 1))
chosen_year day near start low high y e =
    let p = back-next near in let q = next-next near in
    elim (int_lt day (start near)) as (λ b. int_lt day (start near) ≡ b
    → y ≡ (cond b (near -ℤ pos 1) (cond (int_lt day (start (near +ℤ pos 1))) near (near +ℤ pos 1))) → (start y ≤ℤ day) × (day <ℤ start (y +ℤ pos 1))) [
      | true ↦ λ before f. rw (f, p) (low, omega (arith, floors))
      | false ↦ λ not_before. elim (int_lt day (start (near +ℤ pos 1))) as (λ b. int_lt day (start (near +ℤ pos 1)) ≡ b
          → y ≡ (cond b near (near +ℤ pos 1)) → (start y ≤ℤ day) × (day <ℤ start (y +ℤ pos 1))) [
            | true ↦ λ within f. rw f (omega (arith, floors), omega (arith, floors))
            | false ↦ λ behind f. rw (f, q) (omega (arith, floors), high)
          ] refl
    ] refl e

pub some_year : (day : ℤ) → (y : ℤ) × LiesIn day y
unfolding closed_year
some_year day =
    let near = mean_year-near day in
    (closed_year day, chosen_year day (mean_year day) year_start near.0 near.1 (closed_year day) refl)
