-- Multiples of a span, over all whole numbers.
use Rattle.std.specs.Prelude.{◌≡◌, ℕ, ℤ, pos, ◌+ℤ◌, ◌-ℤ◌, ◌*ℤ◌, int_lt, if◌then◌else◌}
use Rattle.naive_base.specs.Year.{floor_div}

-- the greatest multiple of the span that is not above n
abbrev pub multiple_below : ℤ → ℕ → ℤ
multiple_below n span = floor_div n span *ℤ pos span

-- the least one that is not below n
abbrev pub multiple_above : ℤ → ℕ → ℤ
multiple_above n span =
    if int_lt (multiple_below n span) n then multiple_below n span +ℤ pos span
    else multiple_below n span

-- the nearer of the two; the one above if both are as near
abbrev pub nearest_multiple : ℤ → ℕ → ℤ
nearest_multiple n span =
    if int_lt (n -ℤ multiple_below n span) (multiple_above n span -ℤ n) then multiple_below n span
    else multiple_above n span

-- the value itself if it stays as it is, and else what is said of another
pub record IsItselfOr {T : Type 0} (stays : Type 0) (IsOther : T → Type 0) (value answer : T)
    : Type 0 where
  pub itself : stays → answer ≡ value
  pub other : (stays → ⊥) → IsOther answer
