-- Bytes in hex digits, of either case.
use Rattle.std.specs.{Prelude.{ℕ, ◌≡◌, ◌+◌, ◌*◌, ◌%◌, List, [], ◌∷◌, length}, Char.{digit_value}, Str.Parse.{AllDigits}}

-- these are hex digits, two for each byte
abbrev pub SpellBytes : List ℕ → Type 0
SpellBytes digits = (length digits % 2 ≡ 0) × AllDigits 16 digits

-- the bytes: two digits for each, that of the high half first
abbrev pub bytes_of : List ℕ → List ℕ
bytes_of [] = []
bytes_of (high ∷ []) = []
bytes_of (high ∷ low ∷ rest) = (16 * digit_value high + digit_value low) ∷ bytes_of rest
