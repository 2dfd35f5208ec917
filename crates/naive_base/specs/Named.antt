-- Days by other names than a year, a month and a day of the month, and the whole years between two days.
use Rattle.std.specs.Prelude.{◌≡◌, ℕ, ◌+◌, ◌/◌, Bool, ◌==◌, nat_lt, ◌&&◌, ◌||◌, if◌then◌else◌, ℤ, pos, ◌-ℤ◌}
use Rattle.gregorian.specs.{DateOf.{year_of, day_of_year, month_of, day_of_month}, Weeks.{IsThursdayOf}, Weekdays.{weekday_of}}

-- the day is the n-th of its weekday w in the month m of the year y
pub record IsWeekdayOfMonth (y : ℤ) (m w n : ℕ) (day : ℤ) : Type 0 where
  pub year : year_of day ≡ y
  pub month : month_of day ≡ m
  pub weekday : weekday_of day ≡ w
  pub nth : (day_of_month day + 6) / 7 ≡ n

-- the Thursday of the n-th week of the year y, by the rule of ISO 8601
pub record IsThursdayOfWeek (y : ℤ) (n : ℕ) (t : ℤ) : Type 0 where
  pub weekday : weekday_of t ≡ 4
  pub year : year_of t ≡ y
  pub number : day_of_year t / 7 + 1 ≡ n

-- the day is that of the weekday w in the n-th week of the year y
pub record IsDayOfIsoWeek (y : ℤ) (n w : ℕ) (day : ℤ) : Type 0 where
  pub weekday : weekday_of day ≡ w
  pub thursday : ℤ
  pub in_week : IsThursdayOf day thursday
  pub of_year : IsThursdayOfWeek y n thursday

-- a month and a day of it come earlier in a year than others
abbrev pub is_earlier_in_year : ℕ → ℕ → ℕ → ℕ → Bool
is_earlier_in_year m d base_m base_d = nat_lt m base_m || ((m == base_m) && nat_lt d base_d)

-- the difference of the years, one less if the later of the two dates is earlier in its year
abbrev pub whole_years : ℤ → ℤ → ℤ
whole_years day base =
    year_of day -ℤ year_of base
    -ℤ (if is_earlier_in_year (month_of day) (day_of_month day) (month_of base) (day_of_month base) then pos 1 else pos 0)
