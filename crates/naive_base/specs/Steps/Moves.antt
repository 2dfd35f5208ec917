-- What the code of moves computes with.
use Rattle.std.specs.Prelude.{ℕ, ℤ, pos, neg_ℤ, ◌≤ℤ◌, Option, SomeIff, min}
use Rattle.gregorian.specs.{Year.{is_leap}, Month.{days_in_month}, Date.{day_number}, DateOf.{day_of_month}}
use Rattle.naive_base.specs.Fields.{MayShow}

-- a length of time and two seconds more at most
abbrev pub IsShort : ℤ → Type 0
IsShort n = (neg_ℤ (pos 10_000_000_000_000_000_000_000_000) ≤ℤ n) × (n ≤ℤ pos 10_000_000_000_000_000_000_000_000)

-- far from the ends of 128 bits
abbrev pub IsSmall : ℤ → Type 0
IsSmall n = (neg_ℤ (pos 100_000_000_000_000_000_000_000_000) ≤ℤ n) × (n ≤ℤ pos 100_000_000_000_000_000_000_000_000)

-- at most so far from 0
abbrev pub IsWithin : ℕ → ℤ → Type 0
IsWithin n z = (neg_ℤ (pos n) ≤ℤ z) × (z ≤ℤ pos n)

-- the day in that month which has the number of the old one, or is the month's last, if the old one may change to it
abbrev pub IsInMonth : ℤ → ℤ → ℕ → Option ℤ → Type 0
IsInMonth old y m answer =
    let d = min (day_of_month old) (days_in_month (is_leap y) m) in SomeIff answer (MayShow old y m d) (day_number y m d)
