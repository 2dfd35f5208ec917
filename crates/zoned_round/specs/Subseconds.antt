-- Local date-times rounded to digits of a second.
use Rattle.std.specs.Prelude.{◌≡◌, ℕ, ◌-◌, ◌^◌, ◌%◌, pos, ◌-ℤ◌}
use Rattle.naive_base.specs.Reading.{Reading, moved}
use Rattle.zoned_round.specs.Multiples.{nearest_multiple, IsItselfOr}

-- the nanoseconds that a last digit counts: with nine digits and more, one
abbrev pub nanos_per_digit : ℕ → ℕ
nanos_per_digit digits = 10 ^ (9 - digits)

-- the nanoseconds after the last digit, of a leap second too
abbrev pub nanos_behind : Reading → ℕ → ℕ
nanos_behind r digits = r.f % nanos_per_digit digits

-- the same second, cut after the last digit
abbrev pub cut : Reading → ℕ → Reading
cut r digits = record { s = r.s; f = r.f - nanos_behind r digits }

-- moved to the nearest multiple of what the last digit counts
abbrev pub rounded : Reading → ℕ → Reading
rounded r digits = moved r (nearest_multiple (pos r.f) (nanos_per_digit digits) -ℤ pos r.f)

-- the precondition of rounding a value that shows r, and the result; likewise of cutting it
abbrev pub MayRound : (Reading → Type 0) → Reading → ℕ → Type 0
MayRound MayShow r digits = (nanos_behind r digits ≡ 0 → ⊥) → MayShow (rounded r digits)

-- the result of rounding a value that shows r to n digits
abbrev pub IsRounded : {T : Type 0} → (Reading → T → Type 0) → Reading → ℕ → T → T → Type 0
IsRounded IsShowing r digits value answer =
    IsItselfOr (nanos_behind r digits ≡ 0) (IsShowing (rounded r digits)) value answer

-- a value that shows r, cut after that number of digits
abbrev pub IsTruncated : {T : Type 0} → (Reading → T → Type 0) → Reading → ℕ → T → T → Type 0
IsTruncated IsShowing r digits value answer =
    IsItselfOr (nanos_behind r digits ≡ 0) (IsShowing (cut r digits)) value answer
