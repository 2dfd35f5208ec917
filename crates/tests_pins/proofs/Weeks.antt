-- The week of a day, if its Thursday and the Thursday's year are known.
use Rattle.tests_pins.proofs.Words.{IsThursdayOf, IsWeekOf, IsoWeek, LiesIn, arith, day_number, day_of_year, day_of_year_is, days_at_least, days_of_months}
use Rattle.std.specs.Prelude.{◌≢◌}
use Rattle.naive_base.specs.Named.{IsDayOfIsoWeek}
use Rattle.tests_pins.proofs.Words.{floors, ints, iso_number, iso_year, lies_in, one_year, pos, refl, subst, sym, weekday_of, year_of, year_start, year_step}
use Rattle.tests_pins.proofs.Words.{ℕ, ℤ, ◌+ℤ◌, ◌+◌, ◌/◌, ◌∙◌, ◌≡◌}

one_thursday : (day a b : ℤ) → IsThursdayOf day a → IsThursdayOf day b → a ≡ b
one_thursday day a b h k = grind (arith, ints, floors)

year_is : (t y : ℤ) → LiesIn t y → year_of t ≡ y
year_is t y lies = one_year t (year_of t) y (lies_in t) lies

place_is : (t y : ℤ) (n : ℕ) → LiesIn t y → year_start y +ℤ pos n ≡ t → day_of_year t ≡ n
place_is t y n lies e = let own = rw (year_is t y lies) at (day_of_year_is t).0 in grind (arith, ints, floors)

-- the week of a day whose Thursday is the n-th day after 1 January of y
pub week_is : (day t y : ℤ) (n : ℕ) (week : IsoWeek) → IsThursdayOf day t → LiesIn t y → year_start y +ℤ pos n ≡ t
    → IsWeekOf day week → (iso_year week ≡ y) × (iso_number week ≡ n / 7 + 1)
week_is day t y n week h lies e w = let same = one_thursday day w.thursday t w.in_week h in grind (arith, ints, year_is, place_is)

pub is_week : (day t y : ℤ) (n : ℕ) (week : IsoWeek) → IsThursdayOf day t → LiesIn t y → year_start y +ℤ pos n ≡ t
    → iso_year week ≡ y → iso_number week ≡ n / 7 + 1 → IsWeekOf day week
is_week day t y n week h lies e of_year number = record {
  thursday = t;
  in_week = h;
  year = rw (year_is t y lies) of_year;
  number = rw (place_is t y n lies e) number;
}

pub day_of_week : (day t y : ℤ) (w n : ℕ) → weekday_of day ≡ w → IsThursdayOf day t → LiesIn t y → year_start y +ℤ pos n ≡ t
    → IsDayOfIsoWeek y (n / 7 + 1) w day
day_of_week day t y w n weekday h lies e = record {
  weekday = weekday;
  thursday = t;
  in_week = h;
  of_year = record { weekday = h.0; year = year_is t y lies; number = rw (place_is t y n lies e) refl };
}

pub not_of_year : (day t y other : ℤ) (n w : ℕ) → IsThursdayOf day t → LiesIn t y → y ≢ other → ¬ (IsDayOfIsoWeek other n w day)
not_of_year day t y other n w h lies differ of_other =
    let same = one_thursday day of_other.thursday t of_other.in_week h in
    differ (sym (year_is t y lies) ∙ (subst (λ (u : ℤ). year_of u ≡ other) same of_other.of_year.year))

fourth : (y : ℤ) → day_number y 1 4 ≡ year_start y +ℤ pos 3
unfolding day_number days_of_months
fourth y = refl

pub first_week : (y : ℤ) (week : IsoWeek) → IsWeekOf (day_number y 1 4) week → (iso_year week ≡ y) × (iso_number week ≡ 1)
first_week y week w =
    let t = w.thursday in let near = w.in_week in let day = fourth y in
    let step = year_step y in let days = days_at_least y in
    let lies : LiesIn t y = (omega (arith, floors), omega (arith, floors)) in
    let own = rw (year_is t y lies) at (day_of_year_is t).0 in grind (arith, ints, floors, week_is (day_number y 1 4) t y (day_of_year t) week near lies own w)
