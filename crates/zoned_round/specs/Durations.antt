-- Values rounded to multiples of a length of time, why one is not, and what the reasons print.
use Rattle.std.specs.{Prelude.{◌≡◌, ℕ, ℤ, pos, ◌-ℤ◌, ◌<ℤ◌, unsigned_abs, FitsSigned, Result, Ok, Err, List, codes}, Int.{w64}}
use Rattle.naive_base.specs.{declared.datetime.NaiveDateTime.{NaiveDateTime}, NaiveDateTime.{reading}, Reading.{moved}}
use Rattle.zoned_round.specs.{declared.error.RoundingError.{RoundingError}, Multiples.{IsItselfOr}}
use Rattle.zoned_round.specs.declared.error.RoundingError.TheVariants.{DurationExceedsTimestamp, DurationExceedsLimit, TimestampExceedsLimit}

-- The span's fault comes first, the stamp's only if the span has none.
abbrev pub IsRoundingFault : Type 0 → Type 0 → RoundingError → Type 0
IsRoundingFault span_fits stamp_fits DurationExceedsLimit = span_fits → ⊥
IsRoundingFault span_fits stamp_fits TimestampExceedsLimit = span_fits × (stamp_fits → ⊥)
IsRoundingFault span_fits stamp_fits DurationExceedsTimestamp = ⊥

-- what each error prints
abbrev pub message : RoundingError → List ℕ
message DurationExceedsTimestamp = codes "duration in nanoseconds exceeds timestamp"
message DurationExceedsLimit = codes "duration exceeds num_nanoseconds limit"
message TimestampExceedsLimit = codes "timestamp exceeds num_nanoseconds limit"

-- a span in nanoseconds
abbrev pub IsRoundingLength : ℤ → Type 0
IsRoundingLength nanos = (pos 0 <ℤ nanos) × FitsSigned w64 nanos

-- the value moved by that length: itself if the length is 0
abbrev pub IsGone : {T : Type 0} → (ℤ → T → Type 0) → ℤ → T → T → Type 0
IsGone IsMoved way value answer = IsItselfOr (way ≡ pos 0) (IsMoved way) value answer

-- the local date-time that many nanoseconds later
abbrev pub IsReadingMoved : NaiveDateTime → ℤ → NaiveDateTime → Type 0
IsReadingMoved value way answer = reading answer ≡ moved (reading value) way

-- The stamp of a value is all that its clock shows, in nanoseconds. The value goes as far as it is from the
-- stamp to the multiple of the span that `choose` names.
abbrev pub IsRoundedTo : {T E : Type 0}
    → (ℤ → ℕ → ℤ) → (E → RoundingError) → (ℤ → T → Type 0) → ℤ → ℤ → T → Result T E → Type 0
IsRoundedTo choose fault IsMoved stamp span value (Ok answer) =
    IsRoundingLength span × FitsSigned w64 stamp
    × IsGone IsMoved (choose stamp (unsigned_abs span) -ℤ stamp) value answer
IsRoundedTo choose fault IsMoved stamp span value (Err error) =
    IsRoundingFault (IsRoundingLength span) (FitsSigned w64 stamp) (fault error)
