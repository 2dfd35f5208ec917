-- Months that have passed between local date-times whose dates are known.
use Rattle.std.specs.Prelude.{◌<◌}
use Rattle.naive_base.specs.Since.{HaveMonthsPassed, IsEarlierInMonth, month_at}
use Rattle.tests_pins.proofs.Words.{Reading, arith, inl, inr, ints, pos, ℕ, ◌≡◌}
use Rattle.naive_base.proofs.Words.{◌+ℤ◌, ◌<ℤ◌}

-- the months are as many apart, and the later local date-time is earlier in its month, or not
pub not_passed : (l m : Reading) (n : ℕ) → month_at m +ℤ pos n ≡ month_at l → IsEarlierInMonth l m → ¬ (HaveMonthsPassed l m n)
not_passed l m n same early h = elim h [ inl less ↦ omega (arith, ints) | inr both ↦ both.1 early ]

pub passed_late : (l m : Reading) (n : ℕ) → month_at m +ℤ pos n ≡ month_at l → ¬ (IsEarlierInMonth l m) → HaveMonthsPassed l m n
passed_late l m n same late = inr (same, late)

-- fewer months than they are apart
pub passed_before : (l m : Reading) (n : ℕ) → (month_at m +ℤ pos n) <ℤ month_at l → HaveMonthsPassed l m n
passed_before l m n less = inl less
