-- What a `TimeDelta` prints.
use Rattle.std.specs.{Prelude.{ℕ, zero, suc, ◌/◌, ◌%◌, ◌==◌, if◌then◌else◌, List, [], ◌∷◌, ◌++◌, ℤ, pos, unsigned_abs, int_lt}, Fmt.{decimal}}
use Rattle.offset_core.specs.{Digits.{in_digits}, TimeDelta.{nanos_of}, declared.time_delta.TimeDelta.{TimeDelta}}

-- the last k decimal digits of n, without the zeros at their end
unfoldable pub without_zeros : ℕ → ℕ → List ℕ
without_zeros zero n = []
without_zeros (suc k) n = if n % 10 == 0 then without_zeros k (n / 10) else in_digits (suc k) n

-- a point and the digits of a part of a second that is given in nanoseconds, nothing for 0 ('.' is 46)
abbrev pub part_text : ℕ → List ℕ
part_text nanos = if nanos == 0 then [] else 46 ∷ without_zeros 9 nanos

-- `PT`, the seconds, their fraction and `S`
abbrev pub seconds_text : ℕ → List ℕ
seconds_text nanos = 80 ∷ (84 ∷ (decimal (nanos / 1_000_000_000) ++ (part_text (nanos % 1_000_000_000) ++ (83 ∷ []))))

-- a length of that many nanoseconds: `P0D` for 0, and a '-' (45) before that of a negative one
abbrev pub length_text : ℤ → List ℕ
length_text nanos =
    if unsigned_abs nanos == 0 then 80 ∷ (48 ∷ (68 ∷ []))
    else if int_lt nanos (pos 0) then 45 ∷ seconds_text (unsigned_abs nanos)
    else seconds_text (unsigned_abs nanos)

-- the bytes of its `Display`
abbrev pub printed_length : TimeDelta → List ℕ
printed_length delta = length_text (nanos_of delta)
