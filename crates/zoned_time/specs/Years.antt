-- Whole years from one local date-time to another.
use Rattle.std.specs.Prelude.{◌≡◌, ◌<◌, ◌⊎◌, ℕ, ℤ, pos, ◌+ℤ◌, ◌≤ℤ◌, ◌<ℤ◌, unsigned_abs, Option, SomeIff}
use Rattle.naive_base.specs.{DateOf.{year_of, month_of, day_of_month}, Reading.{Reading, day_at, second_at, IsEarlierTime}}

-- in its year l comes before m in its own: by month, then day, then time
abbrev pub IsEarlierInYear : Reading → Reading → Type 0
IsEarlierInYear l m =
    (month_of (day_at l) < month_of (day_at m))
    ⊎ ((month_of (day_at l) ≡ month_of (day_at m))
    × ((day_of_month (day_at l) < day_of_month (day_at m))
    ⊎ ((day_of_month (day_at l) ≡ day_of_month (day_at m)) × IsEarlierTime (second_at l) l.f (second_at m) m.f)))

-- n years have passed from m to l: the year n years after m's is before l's, or it is l's and l isn't earlier in it. From
-- 29 February the first year has passed on 1 March.
abbrev pub HaveYearsPassed : Reading → Reading → ℤ → Type 0
HaveYearsPassed l m n =
    ((year_of (day_at m) +ℤ n) <ℤ year_of (day_at l))
    ⊎ ((year_of (day_at m) +ℤ n ≡ year_of (day_at l)) × ¬ (IsEarlierInYear l m))

-- the whole years from m to l: the greatest number that have passed
pub record IsWholeYears (l m : Reading) (n : ℤ) : Type 0 where
  pub passed : HaveYearsPassed l m n
  pub greatest : (k : ℤ) → HaveYearsPassed l m k → k ≤ℤ n

-- the whole years from the one to the other, if not negative
abbrev pub IsYearsSince : Reading → Reading → Option ℕ → Type 0
IsYearsSince l m years = (n : ℤ) × IsWholeYears l m n × SomeIff years (pos 0 ≤ℤ n) (unsigned_abs n)
