-- Whole seconds that are found for instants.
use Rattle.naive_base.specs.Stamp.{IsStamp, of_secs}
use Rattle.zoned_ffi.proofs.Words.{IsInRange, Unit, Zone, arith, ℕ, ℤ, ◌<◌}
use Rattle.zoned_ffi.specs.{Columns.{IsNoWholeSecondOf, IsSoughtNumber}, declared.whole_second.WholeSecond.{WholeSecond}}

pub row_number : (z : Zone) (unit : Unit) (sought : WholeSecond) (x : ℤ) (n : ℕ) → IsNoWholeSecondOf z unit sought x n → IsSoughtNumber n
row_number z unit sought x n without = grind arith

-- without a leap second only the range is left of a stamp
pub no_stamp : (s : ℤ) (f : ℕ) → f < 1_000_000_000 → ¬ (IsStamp (of_secs s f)) → ¬ (IsInRange s)
no_stamp s f small none = λ inside. none (inside, (omega arith, λ leap. absurd (omega arith)))
