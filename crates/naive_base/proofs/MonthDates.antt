-- The month that many months from a day's has the day of the month, or its own last one.
use Rattle.std.proofs.Math.Nat.{le-min, min-le_right}
use Rattle.naive_base.proofs.Words.{IsDate, IsMonthsLater, IsSome, IsYearInRange, None, Option, arith, date_is, day_of_month, days_in_month, floor_mod_parts}
use Rattle.naive_base.proofs.Words.{floors, is_leap, min, month_after, month_bounds, month_of_number, option_map, year_of_number, ℤ, ◌≡◌}

pub date_in_month : (old n : ℤ) → IsDate (year_of_number n) (month_of_number n)
    (min (day_of_month old) (days_in_month (is_leap (year_of_number n)) (month_of_number n)))
date_in_month old n = grind (arith, floors, floor_mod_parts n 12 (omega arith), date_is old, month_bounds, le-min, min-le_right)

pub mapped_none : {A B : Type 0} (f : A → B) (value : Option A) → None ≡ option_map f value → value ≡ None
mapped_none f value e = grind arith

-- what shows a day may show one in that month, if the year is in range
pub months_found : {T : Type 0} (shows : T → ℤ) (gives : Option ℤ → Option T → Type 0)
    (none : (value : Option ℤ) → gives value None → value ≡ None) (old by : ℤ) (answer : Option T)
    → IsYearInRange (year_of_number (month_after old by)) → IsMonthsLater shows gives old by answer → IsSome answer
months_found shows gives none old by answer fits h = grind (arith, date_in_month)
