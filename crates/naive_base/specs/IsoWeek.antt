-- Weeks of ISO 8601: a week runs from Monday to Sunday, and belongs to the year that its Thursday lies in, whose weeks are
-- counted from 1.
use Rattle.std.specs.Prelude.{◌≡◌, ℕ, ◌+◌, ◌/◌, List, ◌∷◌, ◌++◌, ℤ}
use Rattle.offset_core.specs.Digits.{in_digits}
use Rattle.gregorian.specs.DateOf.{year_of, day_of_year}
use Rattle.naive_base.specs.{Text.{year_text}, declared.iso_week.IsoWeek.{IsoWeek}}
pub use Rattle.gregorian.specs.Weeks.{IsThursdayOf}

-- what an `IsoWeek` shows: its year, and its number there
abbrev pub iso_year : IsoWeek → ℤ
iso_year week = week.year

abbrev pub iso_number : IsoWeek → ℕ
iso_number week = week.week

-- the week that a day lies in
pub record IsWeekOf (day : ℤ) (week : IsoWeek) : Type 0 where
  pub thursday : ℤ
  pub in_week : IsThursdayOf day thursday
  pub year : iso_year week ≡ year_of thursday
  pub number : iso_number week ≡ day_of_year thursday / 7 + 1

-- the bytes of its `Debug`: the year, `-W` (45 and 87) and the number in two digits
abbrev pub printed_week : IsoWeek → List ℕ
printed_week week = year_text (iso_year week) ++ (45 ∷ (87 ∷ in_digits 2 (iso_number week)))
