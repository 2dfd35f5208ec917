-- Stamps with the span that they are rounded by.
use Rattle.std.specs.{Prelude.{◌≡◌, ℤ, pos, neg_ℤ, ◌≤ℤ◌, FitsSigned, Result, Ok, Err}, Int.{w64}}
use Rattle.naive_base.specs.Reading.{Reading, total}
use Rattle.zoned_round.specs.{declared.{error.RoundingError.{RoundingError}, stamp.Stamp.{Stamp}}, Durations.{IsRoundingFault}, Durations.{IsRoundingLength}}

-- the stamp and the span, or the reason why they don't exist
abbrev pub IsStampOf : ℤ → ℤ → Result Stamp RoundingError → Type 0
IsStampOf stamp span (Ok found) =
    IsRoundingLength span × FitsSigned w64 stamp × (found.nanos ≡ stamp) × (found.span ≡ span)
IsStampOf stamp span (Err error) = IsRoundingFault (IsRoundingLength span) (FitsSigned w64 stamp) error

-- not far past 64 bits
abbrev pub IsNearRange : Reading → Type 0
IsNearRange r =
    (neg_ℤ (pos 10_000_000_000_000_000_000) ≤ℤ total r) × (total r ≤ℤ pos 10_000_000_000_000_000_000)
