-- Printed numbers.
use Rattle.std.specs.Prelude.{ℕ, zero, suc, ◌+◌, ◌/◌, ◌%◌, if◌then◌else◌, List, [], ◌∷◌, ◌++◌, ℤ, pos, int_lt}

-- the last k decimal digits of n, with zeros in front where n has fewer ('0' is 48)
unfoldable pub in_digits : ℕ → ℕ → List ℕ
in_digits zero n = []
in_digits (suc k) n = in_digits k (n / 10) ++ ((48 + n % 10) ∷ [])

-- '-' (45) of a negative number, and else '+' (43)
abbrev pub sign_byte : ℤ → ℕ
sign_byte z = if int_lt z (pos 0) then 45 else 43
