-- What a `TimeDelta` shows.
use Rattle.std.specs.{Prelude.{◌≡◌, ℕ, ◌<◌, List, fold, ℤ, pos, ◌+ℤ◌, ◌*ℤ◌, Option, Some, None, [], ◌∷◌, ⊤}, Borrow.{Bor}}
use Rattle.offset_core.specs.{declared.time_delta.TimeDelta.{TimeDelta}, Nanoseconds.{FitsTimeDelta, nanos_per_second}}

-- the length in nanoseconds
abbrev pub nanos_of : TimeDelta → ℤ
nanos_of delta = delta.secs *ℤ nanos_per_second +ℤ pos delta.nanos

-- the length of that many nanoseconds, if and only if that is in range
abbrev pub IsDeltaOf : ℤ → Option TimeDelta → Type 0
IsDeltaOf nanos (Some delta) = FitsTimeDelta nanos × (nanos_of delta ≡ nanos)
IsDeltaOf nanos None = FitsTimeDelta nanos → ⊥

-- the length of that many seconds and nanoseconds, if and only if these are less than a second and the whole is in range
abbrev pub IsDeltaOfParts : ℤ → ℕ → Option TimeDelta → Type 0
IsDeltaOfParts secs nanos (Some delta) =
    (nanos < 1_000_000_000) × FitsTimeDelta (secs *ℤ nanos_per_second +ℤ pos nanos)
    × (nanos_of delta ≡ secs *ℤ nanos_per_second +ℤ pos nanos)
IsDeltaOfParts secs nanos None =
    nanos < 1_000_000_000 → FitsTimeDelta (secs *ℤ nanos_per_second +ℤ pos nanos) → ⊥

-- the nanoseconds of all these lengths
abbrev pub sum_of : List TimeDelta → ℤ
sum_of deltas = fold (λ sum delta. sum +ℤ nanos_of delta) (pos 0) deltas

-- the nanoseconds of all the lengths that these references point to
abbrev pub sum_behind : List (Bor TimeDelta) → ℤ
sum_behind deltas = fold (λ sum delta. sum +ℤ nanos_of delta.now) (pos 0) deltas

-- each sum is in range, if the lengths are added to a total one by one
abbrev pub SumsFit : ℤ → List TimeDelta → Type 0
SumsFit total [] = ⊤
SumsFit total (delta ∷ deltas) = FitsTimeDelta (total +ℤ nanos_of delta) × SumsFit (total +ℤ nanos_of delta) deltas

-- the sum of these lengths, if and only if each sum on the way is in range
abbrev pub IsCheckedSum : List TimeDelta → Option TimeDelta → Type 0
IsCheckedSum deltas (Some sum) = SumsFit (pos 0) deltas × (nanos_of sum ≡ sum_of deltas)
IsCheckedSum deltas None = SumsFit (pos 0) deltas → ⊥
